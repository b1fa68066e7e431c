use Rattle.std.proofs.Common.{◌∙◌, arith, rules, FitsSigned, w64}
use Rattle.std.proofs.lemmas.Int.{ints, to_z-of_z}
use Rattle.apt_plane.specs.declared.figures.Moved.{Moved}
use Rattle.apt_offset.specs.Ranges.{IsLineTarget}
use Rattle.apt_contact.specs.Contacts.{HasMeeting}
use Rattle.apt_stop.proofs.Decided.{meets_led}
use Rattle.apt_stop.proofs.OnMovedLines.{straight_is}
use Rattle.apt_stop.proofs.decisions.meeting.Goals as goal

pub returns-in-Line-Line : goal.returns-in-Line-Line
returns-in-Line-Line c =
    let on = c.in-Line-Line in
    let track : Moved = record { line = record { base = on.base; dir = on.dir }; off = on.off } in
    let stop : Moved = record { line = record { base = on.at; dir = on.along }; off = on.over } in
    let is_track : IsLineTarget on.base on.dir on.off = rw on.is-0 at c.requires.track in
    let is_stop : IsLineTarget on.at on.along on.over = rw on.is-1 at c.requires.stop in
    let fits_track : FitsSigned w64 on.off = omega (arith, ints, is_track.off) in
    let fits_stop : FitsSigned w64 on.over = omega (arith, ints, is_stop.off) in
    (simp to_z-of_z at c.straight.ensures) ∙ straight_is c.args.c.now track stop on.is-0 on.is-1

pub returns-in-One : goal.returns-in-One
returns-in-One c =
    let has : HasMeeting c.meet.result = search rules in
    c.leading.ensures ∙ meets_led c.args.c.now (rw c.meet.ensures.value at has)
