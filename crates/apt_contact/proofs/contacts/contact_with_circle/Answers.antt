use Rattle.std.proofs.Common.{◌∙◌, arith, FitsSigned, w8, w64}
use Rattle.std.proofs.lemmas.Int.{ints, to_z-of_z}
use Rattle.apt_offset.specs.Ranges.{IsLineTarget, IsCircleTarget}
use Rattle.apt_contact.specs.Meetings.{line_on, circle_about, of_line_and_circle, of_circles}
use Rattle.apt_contact.specs.Contacts.{HasMeeting}
use Rattle.apt_contact.proofs.MeetingLaws.{not_negative}
use Rattle.apt_contact.proofs.ContactLaws.{line_meets_circle, circles_meet}
use Rattle.apt_contact.proofs.contacts.contact_with_circle.Goals as goal

pub returns-in-Line-clause-value : goal.returns-in-Line-clause-value
returns-in-Line-clause-value c =
    let circle = c.args.c.now in
    let line = line_on c.in-Line.base c.in-Line.dir in
    let off = c.in-Line.off in
    let is : IsLineTarget c.in-Line.base c.in-Line.dir off = rw c.in-Line.is at c.requires.other in
    let fits : FitsSigned w64 off = omega (arith, ints, is.off) in
    let fits_sigma : FitsSigned w8 c.args.sigma = c.ranges.sigma in
    let meeting : HasMeeting (of_line_and_circle line off circle) = rw c.in-Line.is at c.requires.meeting in
    let value = simp to_z-of_z at c.line_circle.ensures.value in
    rw c.in-Line.is (value ∙ line_meets_circle line off circle c.args.sigma (not_negative circle.r c.requires.circle.least) meeting)

pub returns-in-Circ-clause-value : goal.returns-in-Circ-clause-value
returns-in-Circ-clause-value c =
    let r = c.in-Circ.r in
    let is : IsCircleTarget c.in-Circ.centre r = rw c.in-Circ.is at c.requires.other in
    let fits : FitsSigned w64 r = omega (arith, ints, is.least, is.most) in
    let fits_sigma : FitsSigned w8 c.args.sigma = c.ranges.sigma in
    let meeting : HasMeeting (of_circles c.args.c.now (circle_about c.in-Circ.centre r)) = rw c.in-Circ.is at c.requires.meeting in
    let value = simp to_z-of_z at c.circle_circle.ensures.value in
    rw c.in-Circ.is (value ∙ circles_meet c.args.c.now (circle_about c.in-Circ.centre r) c.args.sigma meeting)
