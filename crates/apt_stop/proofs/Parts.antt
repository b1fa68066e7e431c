-- What is left where nothing refuses a course.
use Rattle.std.proofs.Common.{refl, ◌≡◌, true, false, ℤ}
use Rattle.std.specs.Prelude.{not, is_none}
use Rattle.apt_num.specs.declared.Sign.{Sign}
use Rattle.apt_words.specs.Rows.{NoneHolds}
use Rattle.apt_plane.specs.declared.figures.Surface.{Surface}
use Rattle.apt_offset.specs.declared.Target.{Target}
use Rattle.apt_offset.specs.Targets.{offset_surface}
use Rattle.apt_contact.specs.Meetings.{meeting_of}
use Rattle.apt_contact.specs.Contacts.{HasMeeting}
use Rattle.apt_stop.specs.declared.course.Course.{Course}
use Rattle.apt_stop.specs.Gaps.{is_touching}
use Rattle.apt_stop.specs.Tangencies.{tangent_axis}
use Rattle.apt_stop.specs.Courses.{is_tanto, kept_side, stop_side, axis_of}
use Rattle.apt_stop.specs.Choices.{is_past, is_past_or_none, end_of, meets_at, touches_at, course_cases}
use Rattle.apt_stop.proofs.Contacts.{has_meeting}

-- the course with these targets
abbrev pub on_targets : Course → Target → Target → Course
on_targets c track stop = record c { track = track; stop = stop }

-- with these surfaces, moved to the places v and w by a cutter of the radius m
abbrev pub moved : Course → Surface → Sign → Surface → Sign → ℤ → Course
moved c drive v check w m = record c { drive = drive; track = offset_surface drive v m; check = check; stop = offset_surface check w m }

-- one that meets its stop
pub record Meets (c : Course) : Type 0 where
  pub meeting : HasMeeting (meeting_of c.track c.stop)
  pub past : is_past c c.track c.stop ≡ false
  pub end : end_of c ≡ meets_at c (stop_side c)
  pub side : kept_side c ≡ stop_side c

pub meets : (c : Course) → is_tanto c.how ≡ false → NoneHolds (course_cases c) → Meets c
meets c e none =
    let rows = rw e at none in record {
      meeting = has_meeting (meeting_of c.track c.stop) rows.0 rows.1.0;
      past = rows.1.1.0;
      end = rw e refl;
      side = rw e refl;
    }

-- one that touches its check surface
pub record Touches (c : Course) : Type 0 where
  pub axis : is_none (tangent_axis c.drive c.check) ≡ false
  pub touching : not (is_touching c.drive c.check) ≡ false
  pub past : is_past_or_none c (tangent_axis c.drive c.check) ≡ false
  pub end : end_of c ≡ touches_at c (tangent_axis c.drive c.check)
  pub on : axis_of c ≡ tangent_axis c.drive c.check

pub touches : (c : Course) → is_tanto c.how ≡ true → NoneHolds (course_cases c) → Touches c
touches c e none =
    let rows = rw e at none in record {
      axis = rows.0;
      touching = rows.1.0;
      past = rows.1.1.0;
      end = rw e refl;
      on = rw e refl;
    }
