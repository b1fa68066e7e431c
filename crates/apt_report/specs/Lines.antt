-- The line that is printed for an answer, none where a tape was run, points were listed, or reading, writing or memory failed.
use Rattle.std.specs.Prelude.{ℕ, List, [], ◌++◌, codes}
use Rattle.std.specs.Fmt.{decimal, signed_decimal}
use Rattle.apt_words.specs.declared.Case.{Case}
use Rattle.apt_words.specs.Names as cases
use Rattle.apt_lexis.specs.declared.cause.PartCause.{PartCause}
use Rattle.apt_lexis.specs.Causes as causes
use Rattle.apt_machine.specs.declared.cause.MachineCause.{MachineCause}
use Rattle.apt_machine.specs.Causes as machine_causes
use Rattle.apt_block.specs.declared.block.TapeCause.{TapeCause}
use Rattle.apt_block.specs.Causes as tape_causes
use Rattle.apt_certify.specs.declared.verdict.Bad.{Bad}
use Rattle.apt_certify.specs.declared.verdict.Verdict.{Verdict}
use Rattle.apt_certify.specs.Verdicts as reasons
use Rattle.apt_cldata.specs.declared.error.ClCause.{ClCause}
use Rattle.apt_cldata.specs.Causes as cl_causes
use Rattle.apt_outline.specs.declared.cause.OutlineCause.{OutlineCause}
use Rattle.apt_outline.specs.declared.parts.Gouge.{Gouge}
use Rattle.apt_outline.specs.Causes as outline_causes
use Rattle.apt_report.specs.declared.status.Status.{Status}
use Rattle.apt_report.specs.declared.status.Status.TheVariants as answers
use Rattle.apt_report.specs.declared.status.Summary.TheVariants as summaries
use Rattle.apt_report.specs.declared.status.Miss.{Miss}
use Rattle.apt_report.specs.declared.status.Miss.TheVariants as misses

abbrev pub compiled_line : ℕ → ℕ → ℕ → List ℕ
compiled_line records acts segments =
    codes "DONE " ++ (decimal records ++ (codes " RECORDS " ++ (decimal acts ++ (codes " ACTS " ++ (decimal segments ++ codes " SEGMENTS\n")))))

abbrev pub bad_part_line : ℕ → PartCause → List ℕ
bad_part_line line cause = codes "BAD PART LINE " ++ (decimal line ++ (codes " " ++ (causes.name_of cause ++ codes "\n")))

abbrev pub bad_machine_line : ℕ → MachineCause → List ℕ
bad_machine_line line cause = codes "BAD MACHINE LINE " ++ (decimal line ++ (codes " " ++ (machine_causes.name_of cause ++ codes "\n")))

abbrev pub refused_line : ℕ → ℕ → Case → List ℕ
refused_line line step case = codes "REFUSED LINE " ++ (decimal line ++ (codes " STEP " ++ (decimal step ++ (codes " " ++ (cases.name_of case ++ codes "\n")))))

abbrev pub certified_line : Verdict → List ℕ
certified_line v =
    codes "YES " ++ (decimal v.segments ++ (codes " SEGMENTS IN " ++ (signed_decimal v.worst_in ++ (codes " OUT " ++ (signed_decimal v.worst_out ++ codes "\n")))))

abbrev pub demo_line : ℕ → Verdict → List ℕ
demo_line n v =
    codes "DEMO " ++ (decimal n ++ (codes " SEGMENTS " ++ (decimal v.segments
    ++ (codes " IN " ++ (signed_decimal v.worst_in ++ (codes " OUT " ++ (signed_decimal v.worst_out ++ codes "\n")))))))

abbrev pub bad_cl_line : ℕ → ClCause → List ℕ
bad_cl_line at cause = codes "BAD CL AT " ++ (decimal at ++ (codes " " ++ (cl_causes.name_of cause ++ codes "\n")))

abbrev pub bad_tape_line : ℕ → TapeCause → List ℕ
bad_tape_line at cause = codes "BAD TAPE AT " ++ (decimal at ++ (codes " " ++ (tape_causes.name_of cause ++ codes "\n")))

abbrev pub motion_line : Bad → List ℕ
motion_line bad =
    codes "NOT CERTIFIED MOTION " ++ (decimal bad.motion ++ (codes " SEGMENT " ++ (decimal bad.segment ++ (codes " " ++ (reasons.name_of bad.reason
    ++ (codes " AT " ++ (signed_decimal bad.spot.j ++ (codes "/" ++ (signed_decimal bad.spot.m ++ codes "\n")))))))))

abbrev pub miss_line : Miss → List ℕ
miss_line (misses.Entry seq) = codes "NOT CERTIFIED ENTRY " ++ (decimal seq ++ codes "\n")
miss_line (misses.Motion bad) = motion_line bad
miss_line (misses.Act at) = codes "NOT CERTIFIED ACT " ++ (decimal at ++ codes "\n")

abbrev pub guarded_line : ℕ → ℕ → List ℕ
guarded_line segments parts = codes "CLEAR " ++ (decimal segments ++ (codes " SEGMENTS " ++ (decimal parts ++ codes " PARTS\n")))

abbrev pub bad_outline_line : ℕ → OutlineCause → List ℕ
bad_outline_line line cause = codes "BAD OUTLINE LINE " ++ (decimal line ++ (codes " " ++ (outline_causes.name_of cause ++ codes "\n")))

abbrev pub gouge_line : Gouge → List ℕ
gouge_line g =
    codes "GOUGE MOTION " ++ (decimal g.motion ++ (codes " SEGMENT " ++ (decimal g.segment ++ (codes " PART " ++ (decimal g.part
    ++ (codes " AT " ++ (signed_decimal g.spot.j ++ (codes "/" ++ (signed_decimal g.spot.m ++ codes "\n")))))))))

abbrev pub line_of : Status → List ℕ
line_of (answers.Done (summaries.Compiled records acts segments)) = compiled_line records acts segments
line_of (answers.Done (summaries.Certified verdict)) = certified_line verdict
line_of (answers.Done (summaries.Demo n verdict)) = demo_line n verdict
line_of (answers.Done (summaries.Guarded segments parts)) = guarded_line segments parts
line_of answers.Usage = codes "USAGE\n"
line_of (answers.Missing name) = codes "MISSING " ++ name ++ codes "\n"
line_of (answers.TooLong name) = codes "TOO LONG " ++ name ++ codes "\n"
line_of (answers.BadMachine line cause) = bad_machine_line line cause
line_of (answers.BadPart line cause) = bad_part_line line cause
line_of (answers.Refused line step case) = refused_line line step case
line_of (answers.BadCl at cause) = bad_cl_line at cause
line_of (answers.BadTape at cause) = bad_tape_line at cause
line_of (answers.NotCertified miss) = miss_line miss
line_of (answers.BadOutline line cause) = bad_outline_line line cause
line_of (answers.Gouge gouge) = gouge_line gouge
line_of _ = []
