use Rattle.std.proofs.Common.{◌≡◌, ◌∙◌, sym, ap, true, false}
use Rattle.apt_words.specs.Rows.{unless}
use Rattle.apt_offset.specs.Targets.{lacks_room}
use Rattle.apt_stop.specs.Nearness.{is_near, off_track}
use Rattle.apt_stop.specs.Legs.{leg_cases, ends_of as ends_at}
use Rattle.apt_meaning.specs.Motions.{track_of, stop_of, starts_on_check}
use Rattle.apt_motion.proofs.Cuts.{on_and_off, cut_ends}
use Rattle.apt_motion.proofs.acts.ends_of.Goals as goal
use Rattle.apt_motion.proofs.acts.ends_of.Goals.{else-not-on-via-then-not-on+else-lacks_room-2, else-not-on-via-else-not-on}

pub returns-clause-value : goal.returns-clause-value
returns-clause-value c =
    let m = c.args.m.now in
    let n = c.args.legs in
    let track = c.track-track.ensures.value in
    let stop : c.stop-stop.result ≡ stop_of m = c.stop-stop.ensures.value in
    let on : starts_on_check m ≡ false = sym c.is_on_check-on.ensures ∙ c.if-on.false in
    let room : lacks_room (track_of m) ≡ false = sym (c.lacks_room.ensures ∙ ap lacks_room track) ∙ c.if-lacks_room.false in
    let near : is_near (track_of m) off_track m.start.xy ≡ true =
    sym (c.is_near.ensures ∙ ap (λ t. is_near t off_track m.start.xy) track) ∙ c.if-not-is_near.false in
    let stop_room : lacks_room (stop_of m) ≡ false = elim c.else-not-on.branch [
      | else-not-on-via-then-not-on+else-lacks_room-2 w ↦ sym (w.lacks_room-then-not-on.ensures ∙ ap lacks_room stop) ∙ w.if-lacks_room-2.false
      | else-not-on-via-else-not-on w ↦ absurd (on_and_off c.is_on_check-on.result w.if-not-on.false c.if-on.false)
    ] in
    cut_ends m n c.decide_legs.result room on stop_room near
    (c.decide_legs.ensures.value ∙ ap (λ t. unless (leg_cases n t) (ends_at n t)) c.course.ensures.value)

pub course-requires-clause-stop_room : goal.course-requires-clause-stop_room
course-requires-clause-stop_room c = elim c.else-not-on.branch [
  | else-not-on-via-then-not-on+else-lacks_room-2 w ↦ c.stop-stop.ensures.range (sym w.lacks_room-then-not-on.ensures ∙ w.if-lacks_room-2.false)
  | else-not-on-via-else-not-on w ↦ absurd (on_and_off c.is_on_check-on.result w.if-not-on.false c.if-on.false)
]
