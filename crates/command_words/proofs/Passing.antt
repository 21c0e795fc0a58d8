-- What a parse that succeeds finds for `--generate` is a number of 64 bits.
use Rattle.std.proofs.Common.{◌≡◌, ◌∙◌, ◌<◌, sym, ap, subst, ℕ, zero, suc, Bool, true, false, List, [], ◌∷◌, map, length, Option, Some, None, codes, refl, inl, inr, arith}
use Rattle.std.specs.Prelude.{IfSome, option_and_then, option_map, slice_get}
use Rattle.std.specs.Borrow.{Bor}
use Rattle.std.specs.List.{All, list_all, slice_index_or}
use Rattle.std.proofs.lemmas.Bool.{cases_lt}
use Rattle.std.proofs.lemmas.List.Elements.{All-cons, All-nil, All-tail}
use Rattle.std.proofs.lemmas.Slice.Eq.{bytes_eq-Decides}
use Rattle.clap.specs.Built.{IsAuto, IsParsedFrom, NamesNoGroup, SameRules}
use Rattle.clap.specs.Facts.{Entry, EntryPasses, HasReading, PassesArg, args_of, groups_of, parser_of, parser_of_value}
use Rattle.clap.specs.Matches.{found_of, matched_of}
use Rattle.clap.specs.Simple.{App, app_of, has_plain_fields}
use Rattle.clap.specs.Values.{Accepts, read_as, reading_of}
use Rattle.clap.specs.Walk.{Rule, Text, is_simple_arg, rule_of, rows_of}
use Rattle.clap.specs.declared.builder.arg.Arg.{Arg}
use Rattle.clap.specs.declared.builder.command.Command.{Command}
use Rattle.clap.specs.declared.builder.command.Command.TheViews.{out-Command}
use Rattle.clap.specs.declared.builder.value_parser.Reading.{Reading}
use Rattle.clap.specs.declared.builder.value_parser.Reading.TheVariants.{AsWritten}
use Rattle.clap.specs.declared.builder.value_parser.ValueParser.{ValueParser}
use Rattle.clap.specs.declared.parser.matches.ArgMatches.{ArgMatches}
use Rattle.clap.specs.declared.parser.matches.MatchedArg.{MatchedArg}
use Rattle.clap.proofs.CallerLemmas.{entry_by_id}
use Rattle.clap.proofs.SimpleLemmas.{is_false, is_nil}
use Rattle.clap.proofs.TakesLemmas.{each_rule}
use Rattle.clap.proofs.WalkLemmas.{both, one_text-rows}
use Rattle.command_words.specs.Command.{folder_rule, generate_rule, nectar_command, number_parser, quiet_rule}
use Rattle.command_words.specs.Told.{HasNumber}

abbrev generate : Text
generate = codes "generate"

-- an argument with the id of `--generate` has its parser
abbrev ParsesNumber : Rule → Type 0
ParsesNumber r = r.id ≡ generate → (r.parser ≡ Some number_parser) × (r.ignore_case ≡ false)

other-id : (id : Text) (n : ℕ) → length id ≡ n → (n ≡ 8 → ⊥) → id ≡ generate → ⊥
other-id id n len other same = other (sym len ∙ ap length same)

rules-parse : All ParsesNumber nectar_command.top.rules
rules-parse =
    All-cons ParsesNumber folder_rule (quiet_rule ∷ generate_rule ∷ [])
    (λ same. absurd (other-id (codes "folder") 6 refl (λ bad. omega arith) same))
    (All-cons ParsesNumber quiet_rule (generate_rule ∷ [])
    (λ same. absurd (other-id (codes "quiet") 5 refl (λ bad. omega arith) same))
    (All-cons ParsesNumber generate_rule [] (λ same. (refl, refl)) (All-nil ParsesNumber)))

each : (P : Rule → Type 0) (xs : List Arg) → All P (map rule_of xs) → All (λ a. P (rule_of a)) xs
each P [] all k d lt = absurd (omega arith)
each P (x ∷ xs) all zero d lt = all 0 (rule_of d) (omega arith)
each P (x ∷ xs) all (suc k) d lt = each P xs (All-tail P (rule_of x) (map rule_of xs) all) k d (omega arith)

-- the first value, read as it was written
first-read : (Q : Text → Type 0) (vs : List (Bor Text)) (how : Reading) → how ≡ AsWritten → All (λ v. Q v.now) vs
    → IfSome (option_map (λ s. read_as how s.now) (slice_get vs 0)) Q
first-read Q [] how is all = tt
first-read Q (v ∷ vs) how is all = subst (λ (h : Reading). Q (read_as h v.now)) (sym is) (all 0 v (omega arith))

module _ (c : Command) (is : app_of c ≡ nectar_command) where
  rules-are : map rule_of (args_of c) ≡ nectar_command.top.rules
  rules-are = ap (λ (a : App). a.top.rules) is

  plain : has_plain_fields (out-Command c) ≡ true
  plain = ap (λ (a : App). a.top.is_plain) is

  no-groups : groups_of c ≡ []
  no-groups = is_nil _ (both _ _ plain).0

  no-globals : (out-Command c).has_globals ≡ false
  no-globals = is_false _ (both _ _ (both _ _ (both _ _ plain).1).1).0

  no-group-named : NamesNoGroup c
  no-group-named k d lt =
      let simple : is_simple_arg (slice_index_or (args_of c) k d) ≡ true =
      each_rule (λ (r : Rule). r.is_simple) (args_of c) (ap (list_all (λ (r : Rule). r.is_simple)) rules-are) k d lt in
      is_nil _ (both _ _ (both _ _ (both _ _ simple).1).1).0

  module _ (m : ArgMatches) (p : IsParsedFrom c m) where
    built-parses : (j : ℕ) (x : Arg) → j < length (args_of p.built) → slice_index_or (args_of p.built) j x ≡ x → x.id.now ≡ generate
        → (x.value_parser ≡ Some number_parser) × (x.ignore_case ≡ false)
    built-parses j x high at same = elim (cases_lt j (length (args_of c))) [
      | inl under ↦
          let s = subst (λ (w : Arg). SameRules (slice_index_or (args_of c) j x) w) at (p.from.kept j x under).1 in
          let old = each ParsesNumber (args_of c) (subst (All ParsesNumber) (sym rules-are) rules-parse) j x under
          (ap (λ (b : Bor Text). b.now) (sym s.id) ∙ same) in
          (s.parser number_parser old.0, s.ignore_case ∙ old.1)
      | inr over ↦ elim (subst IsAuto at (p.from.extra j x over high)) [
        | inl help ↦ absurd (other-id (codes "help") 4 refl (λ bad. omega arith) (sym help ∙ same))
        | inr version ↦ absurd (other-id (codes "version") 7 refl (λ bad. omega arith) (sym version ∙ same))
      ]
    ]

    accepted : (v : Text) → PassesArg p.built generate v → Accepts false number_parser v
    accepted v pass =
        let parses = built-parses pass.0 pass.1 pass.2 pass.3 ((bytes_eq-Decides _ _).0 pass.4.0) in
        subst (λ (q : ValueParser). Accepts false q v) (ap parser_of_value parses.0)
        (subst (λ (b : Bool). Accepts b (parser_of pass.1) v) parses.1 pass.4.1)

    as-written : (r : Reading) → HasReading p.built generate r → r ≡ AsWritten
    as-written r has =
        let parses = built-parses has.0 has.1 has.2 has.3 ((bytes_eq-Decides _ _).0 has.4.0) in
        sym has.4.1 ∙ ap reading_of (ap parser_of_value parses.0)

    entry-accepted : (e : Entry) → e.0.now ≡ generate → EntryPasses p.built e
        → IfSome (option_map (λ s. read_as e.1.reading s.now) (slice_get e.1.vals.items 0)) (Accepts false number_parser)
    entry-accepted e id pass =
        let no-built-groups : groups_of p.built ≡ [] = (p.from.same_groups no-group-named).1 ∙ no-groups in
        let no-group : e.1.is_group ≡ true → ⊥ = λ group. elim (pass.3 group) [
          | inl empty ↦ other-id [] 0 refl (λ bad. omega arith) (sym empty ∙ id)
          | inr some ↦
              let bad : 0 < 0 = subst (λ gs. 0 < length gs) no-built-groups some in
              omega arith
        ] in
        let how : e.1.reading ≡ AsWritten = elim pass.4 [
          | inl group ↦ absurd (no-group group)
          | inr reads ↦ as-written e.1.reading (subst (λ (w : Text). HasReading p.built w e.1.reading) id reads)
        ] in
        let all : All (λ v. Accepts false number_parser v.now) e.1.vals.items = elim pass.0 [
          | inl group ↦ absurd (no-group group)
          | inr values ↦ λ k d lt. accepted (slice_index_or e.1.vals.items k d).now
              (subst (λ (w : Text). PassesArg p.built w (slice_index_or e.1.vals.items k d).now) id (values k d lt))
        ] in
        first-read (Accepts false number_parser) e.1.vals.items e.1.reading how all

    pub number-found : HasNumber (rows_of (found_of m))
    number-found =
        subst (λ (o : Option Text). IfSome o (Accepts false number_parser)) (one_text-rows (found_of m) generate)
        (go (matched_of (found_of m) generate) refl)
      where
        go : (o : Option MatchedArg) → matched_of (found_of m) generate ≡ o
            → IfSome (option_and_then (λ (a : MatchedArg). option_map (λ s. read_as a.reading s.now) (slice_get a.vals.items 0)) o) (Accepts false number_parser)
        go None found = tt
        go (Some x) found =
            let parsed = p.parsed (p.from.globals ∙ no-globals) in
            let got = entry_by_id (EntryPasses p.built) (found_of m).entries.items generate x parsed.values found in
            subst (λ (y : MatchedArg). IfSome (option_map (λ s. read_as y.reading s.now) (slice_get y.vals.items 0)) (Accepts false number_parser)) got.1
            (entry-accepted got.0 ((bytes_eq-Decides got.0.0.now generate).0 got.2) got.3)
