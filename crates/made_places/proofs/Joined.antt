-- Lists of marks and of places that are put behind each other.
use Rattle.std.proofs.lemmas.List.{append_assoc, append-nil, map-append}

pub ruleset of_joined = (append_assoc, append-nil, map-append)
