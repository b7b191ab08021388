-- The markup that a page may have behind its verdict. Percent signs stand for numbers, names and texts. Source: HTML and SVG, their
-- elements and attributes.
use Rattle.std.specs.Prelude.{ℕ, Bool, List, [], ◌∷◌, ◌++◌, codes}
use Rattle.std.specs.List.{list_any}
use Rattle.std.specs.Str.{bytes_eq}

-- a text alone, and what stands between texts
abbrev pub text_templates : List (List ℕ)
text_templates =
    codes "%" ∷
    codes "%%" ∷
    codes " " ∷
    codes ", " ∷
    codes "\n" ∷
    codes "<p class=\"com\">" ∷
    codes "</p>\n" ∷
    []

-- of a method: its section, its name, and links to it
abbrev pub method_templates : List (List ℕ)
method_templates =
    codes "<section class=\"m\" id=\"method-%\" aria-labelledby=\"h-%\">" ∷
    codes "<section class=\"m bad\" id=\"method-%\" aria-labelledby=\"h-%\">" ∷
    codes "<h3 id=\"h-%\">%</h3>" ∷
    codes "<div class=\"fig\">" ∷
    codes "</div></section>\n" ∷
    codes "<p class=\"by\">Executed by " ∷
    codes "<a href=\"#method-%\">%</a>" ∷
    codes "<a href=\"#method-%\">" ∷
    codes "</a>" ∷
    []

-- of a drawing: its parts with their titles and lines, and its symbols that aren't statements
abbrev pub drawing_templates : List (List ℕ)
drawing_templates =
    codes "<svg role=\"group\" aria-labelledby=\"t-%-%\" width=\"%\" height=\"%\" viewBox=\"0 % % %\"><title id=\"t-%-%\">%</title>" ∷
    codes "<path aria-hidden=\"true\" class=\"l\" d=\"%\"/><path aria-hidden=\"true\" class=\"a\" d=\"%\"/>" ∷
    codes "</svg>" ∷
    codes "<rect class=\"t\" x=\"%\" y=\"%\" width=\"%\" height=\"%\" rx=\"%\"/><text class=\"n\" x=\"%\" y=\"%\">%</text>" ∷
    codes "<rect class=\"t bad\" x=\"%\" y=\"%\" width=\"%\" height=\"%\" rx=\"%\"/><text class=\"n\" x=\"%\" y=\"%\">%</text>" ∷
    codes "<text class=\"y\" x=\"%\" y=\"%\">%</text>" ∷
    codes "<text class=\"e\" x=\"%\" y=\"%\">%</text>" ∷
    codes "<path class=\"k\" d=\"M% %h10M% %h-6v%h6\"/>" ∷
    codes "<text class=\"c\" x=\"%\" y=\"%\">%</text>" ∷
    []

-- of the statements of a drawing
abbrev pub statement_templates : List (List ℕ)
statement_templates =
    codes "<g id=\"%:%\" role=\"group\" aria-label=\"%:%%: %\" class=\"s\">" ∷
    codes "<g id=\"%:%\" role=\"group\" aria-label=\"%:%%: %\" class=\"s bad\">" ∷
    codes "</g>" ∷
    codes "<rect class=\"b\" x=\"%\" y=\"%\" width=\"%\" height=\"%\"/>" ∷
    codes "<path class=\"d\" d=\"M% %l% -%h%l% %l-% %h-%z\"/>" ∷
    codes "<path class=\"d bad\" d=\"M% %l% -%h%l% %l-% %h-%z\"/>" ∷
    codes "<rect x=\"%\" y=\"%\" width=\"%\" height=\"%\"/>" ∷
    codes "<text x=\"%\" y=\"%\">" ∷
    codes "</text>" ∷
    codes "<tspan>" ∷
    codes "</tspan>" ∷
    codes "<text class=\"p\" x=\"%\" y=\"%\">%:%</text>" ∷
    codes "<text class=\"p\" x=\"%\" y=\"%\">refused %:%</text>" ∷
    codes "<rect class=\"x\" x=\"%\" y=\"%\" width=\"%\" height=\"%\"/><path class=\"xx\" d=\"M% %v%M% %v%\"/><text class=\"m\" x=\"%\" y=\"%\">%</text>" ∷
    []

-- of the number of methods and statements, the index, and the key of the symbols
abbrev pub index_templates : List (List ℕ)
index_templates =
    codes "<p class=\"sub\" id=\"methods\">There is nothing to draw: the file is not read as a flowchart.</p></header>" ∷
    codes "<p class=\"sub\">% %, % %</p></header>\n" ∷
    codes "<div class=\"cols\"><nav aria-labelledby=\"index\"><h2 id=\"index\">Methods</h2><ul>\n" ∷
    codes "<li><a href=\"#method-%\">%</a> <span>%</span></li>\n" ∷
    codes "<li class=\"bad\"><a href=\"#method-%\">%</a> <span>%</span></li>\n" ∷
    codes "</ul><p><a href=\"#declarations\">Declarations</a></p></nav><main>\n" ∷
    codes "<section id=\"methods\"><h2>Drawings</h2>\n<div class=\"key\"><svg aria-hidden=\"true\" width=\"566\" height=\"26\" viewBox=\"0 0 566 26\"><path class=\"d\" d=\"M2 13l10-10h34l10 10l-10 10h-34z\"/><text class=\"c\" x=\"63\" y=\"17\">test</text><rect class=\"b\" x=\"104\" y=\"3\" width=\"44\" height=\"20\"/><text class=\"c\" x=\"155\" y=\"17\">assignments</text><rect class=\"x\" x=\"242\" y=\"3\" width=\"44\" height=\"20\"/><path class=\"xx\" d=\"M247 3v20M281 3v20\"/><text class=\"c\" x=\"293\" y=\"17\">another method</text><path class=\"k\" d=\"M402 13h10M418 3h-6v20h6\"/><text class=\"c\" x=\"424\" y=\"17\">comment of the file</text></svg><p>After a test, <i>yes</i> goes one step to the right and <i>no</i> straight down, unless the words beside the lines say otherwise. The grey words are the places of the statements, as refusals name them.</p></div>\n" ∷
    codes "</section></main></div>" ∷
    []

-- of the table of declarations
abbrev pub table_templates : List (List ℕ)
table_templates =
    codes "<section id=\"declarations\"><h2>Declarations</h2>\n" ∷
    codes "</section>\n" ∷
    codes "<div class=\"scroll\"><table aria-label=\"Declarations\"><thead><tr><th scope=\"col\">Name<th scope=\"col\">Type<th scope=\"col\">Default or value<th scope=\"col\">Range<th scope=\"col\">Comment</tr></thead>\n" ∷
    codes "</table></div>\n" ∷
    codes "<tbody><tr><th class=\"g\" colspan=\"5\" scope=\"rowgroup\">% <span>%</span></tr>\n" ∷
    codes "</tbody>\n" ∷
    codes "<tr><td class=\"com\" colspan=\"5\">" ∷
    codes "</tr>\n" ∷
    codes "<tr id=\"name-%\"><th scope=\"row\">%<td>%" ∷
    codes "<tr id=\"name-%\" class=\"bad\"><th scope=\"row\">%<td>%" ∷
    codes "<td class=\"num\">%<td class=\"num\">%<td>" ∷
    codes "<td colspan=\"3\">" ∷
    codes "<br>" ∷
    codes "<span class=\"tab\">" ∷
    codes "<span><i>%</i>%</span>" ∷
    codes " <span><i>%</i>%</span>" ∷
    codes "</span>" ∷
    []

-- of a run above the drawings: its inputs and outputs as tables, how many steps it took, and its statements in order
abbrev pub run_templates : List (List ℕ)
run_templates =
    codes "<section id=\"run\"><h2>The run</h2>\n<div class=\"run\">" ∷
    codes "<table><caption>Inputs</caption><thead><tr><th scope=\"col\">Name<th scope=\"col\">Value<th scope=\"col\">Given</tr></thead><tbody>\n" ∷
    codes "<tr><th scope=\"row\">%<td class=\"num\">%<td>%</tr>\n" ∷
    codes "</tbody></table>\n" ∷
    codes "<table><caption>Outputs</caption><thead><tr><th scope=\"col\">Name<th scope=\"col\">Value</tr></thead><tbody>\n" ∷
    codes "<tr><th scope=\"row\">%<td class=\"num\">%</tr>\n" ∷
    codes "</div>\n<p>The run took % steps. A run takes at most %.</p>\n" ∷
    codes "<h3>Its statements in order</h3>\n<ol class=\"run\">\n" ∷
    codes "<li id=\"visit-%\"><a href=\"#%:%\">%:%</a> <span>%</span> <code>%</code> <em>%</em> <span>%</span></li>\n" ∷
    codes "</ol>\n<p>% statements of the run are left out here: the text of the run has all.</p>\n<ol class=\"run\" start=\"%\">\n" ∷
    codes "</ol></section>\n" ∷
    codes "<p class=\"blocked\"><strong>No run.</strong> %.</p>\n<p><code>%</code></p></div></section>\n" ∷
    []

-- of the runs of a table above the drawings: to how much they came, by method, and to what they didn't
abbrev pub coverage_templates : List (List ℕ)
coverage_templates =
    codes "<section id=\"coverage\"><h2>What the runs came to</h2>\n" ∷
    codes "<p><strong>% percent</strong> of what runs can come to: % of % statements, % of % exits. Unreachable within the ranges: %.</p>\n" ∷
    codes "<p>Runs without amounts: % of %.</p>\n" ∷
    codes "<table><caption>By method</caption><thead><tr><th scope=\"col\">Method<th scope=\"col\">Statements<th scope=\"col\">Exits</tr></thead><tbody>\n" ∷
    codes "<tr><th scope=\"row\"><a href=\"#method-%\">%</a><td class=\"num\">% of %<td class=\"num\">% of %</tr>\n" ∷
    codes "<h3>Never reached</h3>\n" ∷
    codes "<h3>Unreachable within the ranges</h3>\n" ∷
    codes "<p>Nothing.</p>\n" ∷
    codes "<ol class=\"run\">\n" ∷
    codes "<li><a href=\"#%:%\"><code>%</code></a></li>\n" ∷
    codes "</ol>\n" ∷
    []

-- of a drawing that shows what is known of its statements: the way of a run is marked, or what no run comes to
abbrev pub marked_templates : List (List ℕ)
marked_templates =
    codes "</ul><p><a href=\"#declarations\">Declarations</a></p></nav><main class=\"traced\">\n" ∷
    codes "</ul><p><a href=\"#declarations\">Declarations</a></p></nav><main class=\"ranged\">\n" ∷
    codes "<p class=\"key\">Each statement says how many runs came there, and each way of a test how many took it. What no run came to is red and dashed, and says never or missed. What no run within the ranges of the inputs can come to is grey and dashed, and says unreachable.</p>\n" ∷
    codes "<p class=\"key\">Under each assignment stands the range of what it puts: from the least to the greatest value that a run within the ranges of the inputs can give it. What no such run comes to is grey and dashed, and says so.</p>\n" ∷
    codes "<p class=\"key\">Under each assignment stands the range of what it puts, as far as the walk over the ranges went before it stopped. The statement that may fail is red, and says why and which ranges its operands have. Dashed ways were not walked: whether a run takes them is not known.</p>\n" ∷
    codes "<p class=\"blocked\">The walk over the ranges stops at <a href=\"#%:%\">%:%</a>. What stands behind it was not walked.</p>\n" ∷
    codes "<g id=\"%:%\" role=\"group\" aria-label=\"%:%%: %; %\" class=\"s\">" ∷
    codes "<g id=\"%:%\" role=\"group\" aria-label=\"%:%%: %; %\" class=\"s bad\">" ∷
    codes "<g id=\"%:%\" role=\"group\" aria-label=\"%:%%: %; %\" class=\"s missed\">" ∷
    codes "<g id=\"%:%\" role=\"group\" aria-label=\"%:%%: %; %\" class=\"s dead\">" ∷
    codes "<rect class=\"b missed\" x=\"%\" y=\"%\" width=\"%\" height=\"%\"/>" ∷
    codes "<rect class=\"b dead\" x=\"%\" y=\"%\" width=\"%\" height=\"%\"/>" ∷
    codes "<path class=\"d missed\" d=\"M% %l% -%h%l% %l-% %h-%z\"/>" ∷
    codes "<path class=\"d dead\" d=\"M% %l% -%h%l% %l-% %h-%z\"/>" ∷
    codes "<text class=\"y missed\" x=\"%\" y=\"%\">% missed</text>" ∷
    codes "<text class=\"e missed\" x=\"%\" y=\"%\">%</text><text class=\"y missed\" x=\"%\" y=\"%\">missed</text>" ∷
    codes "<text class=\"p v\" x=\"%\" y=\"%\">%</text>" ∷
    codes "<text class=\"y\" x=\"%\" y=\"%\">% %</text>" ∷
    codes "<text class=\"e\" x=\"%\" y=\"%\">%</text><text class=\"y\" x=\"%\" y=\"%\">%</text>" ∷
    codes "<text class=\"y dead\" x=\"%\" y=\"%\">% never</text>" ∷
    codes "<text class=\"e dead\" x=\"%\" y=\"%\">%</text><text class=\"y dead\" x=\"%\" y=\"%\">never</text>" ∷
    codes "<g id=\"%:%\" role=\"group\" aria-label=\"%:%%: %; %\" class=\"s ran\">" ∷
    codes "<rect class=\"b ran\" x=\"%\" y=\"%\" width=\"%\" height=\"%\"/>" ∷
    codes "<path class=\"d ran\" d=\"M% %l% -%h%l% %l-% %h-%z\"/>" ∷
    codes "<text class=\"v\" x=\"%\" y=\"%\">%</text>" ∷
    codes "<a href=\"#visit-%\"><text class=\"p\" x=\"%\" y=\"%\">%:%</text></a>" ∷
    codes "<path aria-hidden=\"true\" class=\"l ran\" d=\"%\"/><path aria-hidden=\"true\" class=\"a ran\" d=\"%\"/>" ∷
    codes "<text class=\"y ran\" x=\"%\" y=\"%\">%</text>" ∷
    codes "<text class=\"e ran\" x=\"%\" y=\"%\">%</text>" ∷
    []

-- all of it
abbrev pub own_templates : List (List ℕ)
own_templates =
    text_templates
    ++ (method_templates
    ++ (drawing_templates
    ++ (statement_templates ++ (index_templates ++ (table_templates
    ++ (run_templates ++ (coverage_templates ++ marked_templates)))))))

-- this markup is the page's own
abbrev pub is_own : List ℕ → Bool
is_own template = list_any (bytes_eq template) own_templates
