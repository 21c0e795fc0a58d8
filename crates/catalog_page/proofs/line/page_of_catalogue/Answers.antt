use Rattle.std.proofs.Common.{◌∙◌, ap, subst, ℕ, List, map}
use Rattle.std.proofs.lemmas.List.Sorted.{IsPermutation-map}
use Rattle.catalog_page.specs.declared.catalogue.Keyed.{Keyed}
use Rattle.catalog_page.specs.declared.catalogue.ProgramLine.{ProgramLine}
use Rattle.catalog_page.specs.declared.catalogue.StreamLine.{StreamLine}
use Rattle.catalog_page.specs.Markup.{written}
use Rattle.catalog_page.specs.Page.{document}
use Rattle.catalog_page.specs.Plain.{kept_of}
use Rattle.catalog_page.specs.ProgramKeys.{AreKeyed}
use Rattle.catalog_page.proofs.line.page_of_catalogue.Goals as goal

pub returns : goal.returns
returns c =
    let ordered = c.in_ok-catalogue.ensures in
    let after = c.in_ok-catalogue.catalogue in
    let ks = c.in_ok-programs.programs.items in
    record {
      results = after.results.items;
      same = IsPermutation-map kept_of _ _ ordered.same;
      in_order = ordered.in_order;
      programs = ks;
      keyed = subst (λ (s : List StreamLine). AreKeyed s c.args.catalogue.programs.items ks) ordered.streams
          (subst (λ (p : List ProgramLine). AreKeyed after.streams.items p ks) ordered.programs c.in_ok-programs.ensures);
      is = c.in_ok-page.ensures
          ∙ ap (λ (k : List Keyed). written (document after.streams.items k (map kept_of after.results.items) after.tick)) c.deref.ensures.value
          ∙ ap (λ (s : List StreamLine). written (document s ks (map kept_of after.results.items) after.tick)) ordered.streams
          ∙ ap (λ (t : ℕ). written (document c.args.catalogue.streams.items ks (map kept_of after.results.items) t)) ordered.tick;
    }
