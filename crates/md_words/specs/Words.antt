-- What the words of the command line say.
use Rattle.std.specs.Prelude.{ℕ, ◌-◌, ◌^◌, List, [], ◌∷◌, Option, Some, None}
use Rattle.programs.specs.Number.{number_of}
use Rattle.md_words.specs.declared.job.Job.{Job}

-- the greatest width and height
abbrev pub size_limit : ℕ
size_limit = 1000

-- the greatest scroll, the last of 64 bits
abbrev pub scroll_limit : ℕ
scroll_limit = 2 ^ 64 - 1

-- a job, where there are all three numbers
abbrev pub job_by : Option ℕ → Option ℕ → Option ℕ → Option Job
job_by (Some w) (Some h) (Some r) = Some (record { width = w; height = h; scroll = r })
job_by _ _ _ = None

-- exactly three words: width, height and scroll
abbrev pub job_of : List (List ℕ) → Option Job
job_of (w ∷ h ∷ r ∷ []) = job_by (number_of size_limit w) (number_of size_limit h) (number_of scroll_limit r)
job_of _ = None
