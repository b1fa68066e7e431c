use Rattle.std.proofs.Common.{◌≡◌, arith, negsuc, FitsSigned, w64}
use Rattle.std.proofs.lemmas.Int.{ints, to_z-of_z}
use Rattle.apt_canon.specs.Meeting.{meeting_point}
use Rattle.apt_offset.specs.declared.Target.TheVariants as targets
use Rattle.apt_contact.specs.Meetings.{line_on}
use Rattle.apt_contact.specs.Contacts.{contact}
use Rattle.apt_startup.proofs.Nearer.{of_one}
use Rattle.apt_startup.proofs.nearest.near_on_line.Goals as goal

pub returns-in-Line-clause-value : goal.returns-in-Line-clause-value
returns-in-Line-clause-value c =
    let l = c.args.l.now in
    let base = c.in-Line.base in
    let dir = c.in-Line.dir in
    let off = c.in-Line.off in
    let fits : FitsSigned w64 l.off = omega (arith, ints, c.requires.line.off) in
    let value = rw c.in-Line.is at c.contact.ensures.value in
    let met : c.contact.result ≡ contact (targets.Line l.line.base l.line.dir l.off) (targets.Line base dir off) (negsuc 0) = simp to_z-of_z at value in
    rw c.in-Line.is (of_one c.contact.result c.args.p (meeting_point l.line l.off (line_on base dir) off) met)
