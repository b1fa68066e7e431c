use Rattle.std.proofs.Common.{◌∙◌, arith, FitsSigned, w8, w64}
use Rattle.std.proofs.lemmas.Int.{ints, to_z-of_z}
use Rattle.apt_offset.specs.Ranges.{IsLineTarget, IsCircleTarget}
use Rattle.apt_contact.specs.Meetings.{line_on, circle_about, of_lines, of_line_and_circle}
use Rattle.apt_contact.specs.Contacts.{HasMeeting}
use Rattle.apt_contact.proofs.MeetingLaws.{not_negative}
use Rattle.apt_contact.proofs.ContactLaws.{lines_meet, line_meets_circle}
use Rattle.apt_contact.proofs.contacts.contact_with_line.Goals as goal

pub returns-in-Line-clause-value : goal.returns-in-Line-clause-value
returns-in-Line-clause-value c =
    let l = c.args.l.now in
    let off = c.in-Line.off in
    let is : IsLineTarget c.in-Line.base c.in-Line.dir off = rw c.in-Line.is at c.requires.other in
    let fits : FitsSigned w64 off = omega (arith, ints, is.off) in
    let meeting : HasMeeting (of_lines l.line (line_on c.in-Line.base c.in-Line.dir)) = rw c.in-Line.is at c.requires.meeting in
    let value = simp to_z-of_z at c.line_line.ensures.value in
    rw c.in-Line.is (value ∙ lines_meet l.line (line_on c.in-Line.base c.in-Line.dir) l.off off meeting)

pub returns-in-Circ-clause-value : goal.returns-in-Circ-clause-value
returns-in-Circ-clause-value c =
    let l = c.args.l.now in
    let r = c.in-Circ.r in
    let is : IsCircleTarget c.in-Circ.c r = rw c.in-Circ.is at c.requires.other in
    let fits : FitsSigned w64 r = omega (arith, ints, is.least, is.most) in
    let fits_sigma : FitsSigned w8 c.args.sigma = c.ranges.sigma in
    let meeting : HasMeeting (of_line_and_circle l.line l.off (circle_about c.in-Circ.c r)) = rw c.in-Circ.is at c.requires.meeting in
    let value = simp to_z-of_z at c.line_circle.ensures.value in
    rw c.in-Circ.is (value ∙ line_meets_circle l.line l.off (circle_about c.in-Circ.c r) c.args.sigma (not_negative r is.least) meeting)
