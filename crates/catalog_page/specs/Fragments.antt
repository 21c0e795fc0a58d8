-- The markup of the page, all that there is.
use Rattle.std.specs.Prelude.{ℕ, List, codes}
use Rattle.catalog_page.specs.declared.fragment.Fragment.{Fragment}
use Rattle.catalog_page.specs.declared.fragment.Fragment.TheVariants as fragment
use Rattle.catalog_page.specs.declared.fragment.TheConstants.{HEAD}

unfoldable pub fragment_text : Fragment → List ℕ
fragment_text fragment.Head = HEAD.now
fragment_text fragment.Tick = codes "<h1>The catalogue at tick "
fragment_text fragment.Streams = codes "</h1>\n<section><h2>Streams</h2>\n<div class=\"scroll\" role=\"region\" aria-labelledby=\"streams\" tabindex=\"0\"><table role=\"table\">\n<caption id=\"streams\">The streams in the order of making. A stream has the bytes of each kept result that reads it.</caption>\n<thead role=\"rowgroup\"><tr role=\"row\"><th role=\"columnheader\" scope=\"col\">Stream</th><th role=\"columnheader\" scope=\"col\">Columns</th><th role=\"columnheader\" scope=\"col\">Extents</th><th role=\"columnheader\" scope=\"col\">Rows</th><th role=\"columnheader\" scope=\"col\">Bytes kept</th></tr></thead>\n<tbody role=\"rowgroup\">\n"
fragment_text fragment.Programs = codes "</tbody></table></div></section>\n<section><h2>Programs</h2>\n<div class=\"scroll\" role=\"region\" aria-labelledby=\"programs\" tabindex=\"0\"><table role=\"table\">\n<caption id=\"programs\">The stored programs by name. A program has the bytes of each kept result of its plan.</caption>\n<thead role=\"rowgroup\"><tr role=\"row\"><th role=\"columnheader\" scope=\"col\">Program</th><th role=\"columnheader\" scope=\"col\">Plan</th><th role=\"columnheader\" scope=\"col\">Bytes kept</th></tr></thead>\n<tbody role=\"rowgroup\">\n"
fragment_text fragment.Results = codes "</tbody></table></div></section>\n<section><h2>Kept results</h2>\n<div class=\"scroll\" role=\"region\" aria-labelledby=\"results\" tabindex=\"0\"><table role=\"table\">\n<caption id=\"results\">The kept results in the order in which a collection at the next tick takes them, leases and jobs aside. Extents are those from the first number on and below the second; ages are in ticks.</caption>\n<thead role=\"rowgroup\"><tr role=\"row\"><th role=\"columnheader\" scope=\"col\">Place</th><th role=\"columnheader\" scope=\"col\">Id</th><th role=\"columnheader\" scope=\"col\">Plan</th><th role=\"columnheader\" scope=\"col\">Extents</th><th role=\"columnheader\" scope=\"col\">Bytes</th><th role=\"columnheader\" scope=\"col\">Machine time</th><th role=\"columnheader\" scope=\"col\">Uses</th><th role=\"columnheader\" scope=\"col\">Since use</th><th role=\"columnheader\" scope=\"col\">Since making</th></tr></thead>\n<tbody role=\"rowgroup\">\n"
fragment_text fragment.Foot = codes "</tbody></table></div></section>\n</main>\n</body>\n</html>\n"
fragment_text fragment.Row = codes "<tr role=\"row\"><th role=\"rowheader\" scope=\"row\">"
fragment_text fragment.RowEnd = codes "</td></tr>\n"
fragment_text fragment.Columns = codes "</th><td role=\"cell\" data-label=\"Columns\">"
fragment_text fragment.ProgramPlan = codes "</th><td role=\"cell\" data-label=\"Plan\">"
fragment_text fragment.Id = codes "</th><td role=\"cell\" data-label=\"Id\">"
fragment_text fragment.Extents = codes "</td><td role=\"cell\" data-label=\"Extents\">"
fragment_text fragment.Rows = codes "</td><td role=\"cell\" data-label=\"Rows\">"
fragment_text fragment.BytesKept = codes "</td><td role=\"cell\" data-label=\"Bytes kept\">"
fragment_text fragment.Plan = codes "</td><td role=\"cell\" data-label=\"Plan\">"
fragment_text fragment.Bytes = codes "</td><td role=\"cell\" data-label=\"Bytes\">"
fragment_text fragment.Machine = codes "</td><td role=\"cell\" data-label=\"Machine time\">"
fragment_text fragment.Uses = codes "</td><td role=\"cell\" data-label=\"Uses\">"
fragment_text fragment.SinceUse = codes "</td><td role=\"cell\" data-label=\"Since use\">"
fragment_text fragment.SinceMaking = codes "</td><td role=\"cell\" data-label=\"Since making\">"
fragment_text fragment.Column = codes "<span class=\"column\">"
fragment_text fragment.Space = codes " "
fragment_text fragment.SpanEnd = codes "</span> "
fragment_text fragment.Code = codes "<code>"
fragment_text fragment.CodeEnd = codes "</code>"
fragment_text fragment.By = codes " <span class=\"by\">program "
fragment_text fragment.NoProgram = codes "<span class=\"by\">no program has this plan, whose key is</span> "
fragment_text fragment.Cut = codes "<div class=\"cut\"><span>"
fragment_text fragment.To = codes " to "
fragment_text fragment.Of = codes " of "
fragment_text fragment.Bar = codes "</span><svg aria-hidden=\"true\" preserveAspectRatio=\"none\" viewBox=\"0 0 "
fragment_text fragment.BarWhole = codes " 1\"><rect class=\"whole\" height=\"1\" width=\""
fragment_text fragment.BarPart = codes "\"/><rect class=\"part\" height=\"1\" x=\""
fragment_text fragment.BarWidth = codes "\" width=\""
fragment_text fragment.BarEnd = codes "\"/></svg></div>"
