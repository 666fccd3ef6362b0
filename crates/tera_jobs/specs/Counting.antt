-- The summary line.
use Rattle.std.specs.Prelude.{ℕ, List, [], ◌++◌, Bool, ◌==◌, if◌then◌else◌, codes, decimal}
use Rattle.terminal_text.specs.Counted.{counted}
use Rattle.tera_jobs.specs.declared.counting.Checked.{Checked}
use Rattle.tera_jobs.specs.declared.counting.LaidOut.{LaidOut}
use Rattle.tera_jobs.specs.declared.counting.Listed.{Listed}
use Rattle.tera_options.specs.declared.job.Mode.{Mode}
use Rattle.tera_options.specs.declared.job.Mode.TheVariants.{Write, Check, Diff}

-- a number with a text; and the same unless the number is 0
abbrev pub with_number : ℕ → List ℕ → List ℕ
with_number number what = codes ", " ++ (decimal number ++ (codes " " ++ what))

abbrev pub with_count : ℕ → List ℕ → List ℕ
with_count number what = if number == 0 then [] else with_number number what

abbrev pub findings_text : ℕ → ℕ → List ℕ
findings_text findings files =
    if findings == 0 then codes "nothing found"
    else counted findings (codes "finding") ++ (codes " in " ++ counted files (codes "file"))

abbrev pub checked_line : Checked → List ℕ
checked_line c =
    counted c.files (codes "file") ++ (codes " checked, " ++ (findings_text c.findings c.faulty ++ with_count c.unread (codes "could not be read")))

-- how much was corrected, and whether another run may correct more
abbrev pub again_text : Bool → List ℕ
again_text more = if more then codes ", run again to fix more\n" else codes "\n"

abbrev pub fixed_line : ℕ → ℕ → Bool → List ℕ
fixed_line findings files more =
    if findings == 0 then codes "nothing fixed\n"
    else counted findings (codes "finding") ++ (codes " fixed in " ++ (counted files (codes "file") ++ again_text more))

abbrev pub listed_line : Listed → List ℕ
listed_line c =
    counted c.components (codes "component") ++ (codes " in " ++ (counted c.files (codes "file")
    ++ (with_count c.faulty (codes "with a fault") ++ with_count c.unread (codes "could not be read"))))

abbrev pub done_text : Mode → List ℕ
done_text Write = codes " formatted"
done_text Check = codes " would change"
done_text Diff = codes " would change"

abbrev pub left_text : Mode → List ℕ
left_text Write = codes "unchanged"
left_text Check = codes "would not"
left_text Diff = codes "would not"

abbrev pub laid_out_line : Mode → LaidOut → List ℕ
laid_out_line mode c =
    counted c.changed (codes "file") ++ (done_text mode ++ (with_number c.same (left_text mode)
    ++ (with_count c.faulty (codes "with a fault") ++ with_count c.failed (codes "failed"))))
