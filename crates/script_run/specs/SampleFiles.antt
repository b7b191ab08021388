-- The two files of a sample: its flowchart and the ranges of its inputs.
use Rattle.std.specs.Prelude.{ℕ, List, [], ◌∷◌, codes}
use Rattle.outside.specs.Told.{FileMap}
use Rattle.outside.specs.Memory.{file_named}
use Rattle.script_run.specs.Samples.{script_of}

-- the tax is 14 % of the pay above 100,000, and KUM the tax of the year so far
abbrev pub sample_plan : List ℕ
sample_plan = script_of (
    codes "<PAP><INTERFACE>"
    ∷ codes "<INPUTS><INPUT name=\"RE4\" type=\"BigDecimal\"/><INPUT name=\"SUMV\" type=\"BigDecimal\"/></INPUTS>"
    ∷ codes "<OUTPUTS type=\"STANDARD\"><OUTPUT name=\"LST\" type=\"BigDecimal\"/><OUTPUT name=\"KUM\" type=\"BigDecimal\"/></OUTPUTS>"
    ∷ codes "</INTERFACE>"
    ∷ codes "<INTERNALS><INTERNAL name=\"X\" type=\"BigDecimal\"/></INTERNALS>"
    ∷ codes "<CONSTANTS>"
    ∷ codes "<CONSTANT name=\"FREI\" type=\"BigDecimal\" value=\"BigDecimal.valueOf(100000)\"/>"
    ∷ codes "<CONSTANT name=\"SATZ\" type=\"BigDecimal\" value=\"BigDecimal.valueOf(0.14)\"/>"
    ∷ codes "</CONSTANTS>"
    ∷ codes "<METHODS><MAIN>"
    ∷ codes "<EXECUTE method=\"TARIF\"/><EVAL exec=\"KUM= SUMV.add(LST)\"/>"
    ∷ codes "</MAIN><METHOD name=\"TARIF\">"
    ∷ codes "<EVAL exec=\"X= RE4.subtract(FREI)\"/>"
    ∷ codes "<IF expr=\"X.compareTo(BigDecimal.ZERO) == -1\"><THEN><EVAL exec=\"X= BigDecimal.ZERO\"/></THEN></IF>"
    ∷ codes "<EVAL exec=\"LST= X.multiply(SATZ).setScale(0, BigDecimal.ROUND_DOWN)\"/>"
    ∷ codes "</METHOD></METHODS></PAP>"
    ∷ [])

-- the pay is at most 10,000,000,000; SUMV is the sum of the year's earlier LST
abbrev pub sample_limits : List ℕ
sample_limits = script_of (
    codes "[input.RE4]"
    ∷ codes "low = 0"
    ∷ codes "high = \"10000000000\""
    ∷ codes "places = 0"
    ∷ codes "[input.SUMV]"
    ∷ codes "low = 0"
    ∷ codes "high = 100000000"
    ∷ codes "places = 0"
    ∷ codes "[bind.SUMV]"
    ∷ codes "kind = \"sum\""
    ∷ codes "output = \"LST\""
    ∷ [])

-- the names and texts of the sample's files
abbrev pub named_texts : List (List ℕ × List ℕ)
named_texts = (codes "p2.xml", sample_plan) ∷ (codes "l2.toml", sample_limits) ∷ []

-- the two files of the sample, by their names
abbrev pub sample_files : FileMap
sample_files = file_named named_texts
