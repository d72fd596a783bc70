-- The line that tells a verdict. Assumes nothing.
use Rattle.std.specs.Prelude.{ℕ, List, ◌∷◌, ◌++◌, codes, decimal}
use Rattle.line.specs.Codes.{code_of}
use Rattle.semantics.specs.Numbers.{law_number, refusal_number, limit_in}
use Rattle.verdict.specs.declared.verdict.Report.{Report}
use Rattle.verdict.specs.declared.verdict.Verdict.{Verdict}
use Rattle.verdict.specs.declared.verdict.Verdict.TheVariants.{Clean, Convicted, Refused, Garbled}

-- The columns of a verdict's line: a word and five numbers.
pub record Columns : Type 0 where
  pub verdict : List ℕ
  pub line : ℕ
  pub code : ℕ
  pub thread : ℕ
  pub number : ℕ
  pub other : ℕ

-- What each verdict tells.
abbrev pub columns_of : Verdict → Columns
columns_of (Clean line) = record { verdict = codes "clean"; line = line; code = 0; thread = 0; number = 0; other = 0 }
columns_of (Convicted line c) = record { verdict = codes "convicted"; line = line; code = law_number c.law; thread = c.thread; number = c.number; other = c.other }
columns_of (Refused line r) = record { verdict = codes "refused"; line = line; code = refusal_number r; thread = 0; number = limit_in r; other = 0 }
columns_of (Garbled f) = record { verdict = codes "garbled"; line = f.line; code = code_of f.what; thread = 0; number = 0; other = 0 }

-- The columns that a report holds.
abbrev pub columns : Report → Columns
columns r = record { verdict = r.verdict.now; line = r.line; code = r.code; thread = r.thread; number = r.number; other = r.other }

-- The line: the columns, parted by single spaces.
abbrev pub line_of : Columns → List ℕ
line_of c = c.verdict ++ (32 ∷ (decimal c.line ++ (32 ∷ (decimal c.code ++ (32 ∷ (decimal c.thread ++ (32 ∷ (decimal c.number ++ (32 ∷ decimal c.other)))))))))

-- The line above it: the names of the columns.
abbrev pub heading : List ℕ
heading = codes "verdict line code thread number other"
