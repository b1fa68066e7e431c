-- On which side of the check surface legs end.
use Rattle.std.proofs.Common.{refl, ◌≡◌, subst, false, pos, Option, Some, None, Result, Ok, Err}
use Rattle.std.specs.Prelude.{IfOk, IfSome}
use Rattle.apt_words.specs.declared.Case.{Case}
use Rattle.apt_words.specs.declared.Stop.{Stop}
use Rattle.apt_words.specs.declared.Stop.TheVariants as stops
use Rattle.apt_plane.specs.declared.figures.Pt.{Pt}
use Rattle.apt_plane.specs.declared.figures.Surface.{Surface}
use Rattle.apt_plane.specs.Ranges.{IsSurface}
use Rattle.apt_offset.specs.declared.Target.{Target}
use Rattle.apt_offset.specs.declared.Target.TheVariants as targets
use Rattle.apt_offset.specs.Sides.{StopsAside}
use Rattle.apt_contact.specs.Contacts.{IsNearTarget}
use Rattle.apt_contact.proofs.Aside.{near_stops_aside}
use Rattle.apt_stop.specs.declared.course.Course.{Course}
use Rattle.apt_stop.specs.declared.legs.Ends.{Ends}
use Rattle.apt_stop.specs.Courses.{is_tanto}
use Rattle.apt_stop.specs.Ends.{IsEndOn}
use Rattle.apt_stop.specs.Legs.{next_leg, IsSecond, LegsEnd, IsStopOfStart, LegsStopAside}

-- a course that meets its stop ends within a unit of it
meets_stop : (track : Target) (c : Course) (q : Pt) → is_tanto c.how ≡ false → IsEndOn track c q → IsNearTarget c.stop (pos 1) q
meets_stop (targets.Line b d h) c q meeting is = (is.meets meeting).stop
meets_stop (targets.Circ o r) c q meeting is = is.meets meeting

-- a fact that ON and TANTO leave free
by_stop : (check : Surface) (how : Stop) (start q : Pt) → (is_tanto how ≡ false → StopsAside check how start q) → StopsAside check how start q
by_stop check stops.To start q aside = aside refl
by_stop check stops.Past start q aside = aside refl
by_stop check stops.On start q aside = tt
by_stop check stops.Tanto start q aside = tt

end_aside : (c : Course) (q : Pt) → IsSurface c.check → IsStopOfStart c → (is_tanto c.how ≡ false → IsNearTarget c.stop (pos 1) q) → StopsAside c.check c.how c.start q
end_aside c q is of near =
    by_stop c.check c.how c.start q (λ meeting.
    near_stops_aside c.check c.how c.start c.drive of.at_drive of.radius (pos 1) q is of.off of.more (subst (λ (t : Target). IsNearTarget t (pos 1) q) of.stop (near meeting)))

second_aside : (c : Course) (second : Option Pt) → IsSurface c.check → IsStopOfStart c → IfSome second (IsSecond c) → IfSome second (StopsAside c.check c.how c.start)
second_aside c None is of end = tt
second_aside c (Some q) is of end = end_aside c q is of (λ meeting. meets_stop c.track (next_leg c) q meeting end.end)

pub legs_aside : (r : Result Ends Case) (c : Course) → IsSurface c.check → IfOk r (LegsEnd c) → IsStopOfStart c → IfOk r (LegsStopAside c)
legs_aside (Ok e) c is ends of = (end_aside c e.first is of (λ meeting. meets_stop c.track c e.first meeting ends.0), second_aside c e.second is of ends.1)
legs_aside (Err case) c is ends of = tt
