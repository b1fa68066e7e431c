-- The second leg of a contour, and the records of its legs.
use Rattle.std.proofs.Common.{◌≡◌, ◌∙◌, sym, ap, subst, List, ◌++◌, append_assoc}
use Rattle.apt_words.specs.Rows.{NoneHolds}
use Rattle.apt_plane.specs.declared.figures.Pt.{Pt}
use Rattle.apt_stop.specs.declared.legs.Legs.TheVariants as legs
use Rattle.apt_records.specs.declared.record.Record.{Record}
use Rattle.apt_meaning.specs.declared.motion.Motion.{Motion}
use Rattle.apt_meaning.specs.Motions.{onward}
use Rattle.apt_meaning.specs.Cuts.{end_point}
use Rattle.apt_meaning.specs.Ranges.{IsMotion}
use Rattle.apt_meaning.specs.Refusals.{motion_cases, cut_cases}
use Rattle.apt_meaning.proofs.Contours.Legs.{second_free}

pub next_is : (m : Motion) (p : Pt) (n : Motion) → p ≡ end_point m → n ≡ onward m p → n ≡ onward m (end_point m)
next_is m p n e f = f ∙ ap (onward m) e

pub next_free : (m : Motion) (p : Pt) (n : Motion) → IsMotion m → NoneHolds (cut_cases m legs.Two) → p ≡ end_point m → n ≡ onward m p → NoneHolds (motion_cases n)
next_free m p n is none e f = subst (λ (x : Motion). NoneHolds (motion_cases x)) (sym (next_is m p n e f)) (second_free m is none)

-- behind the records that are there, and the first of a contour
pub drawn_behind : (now before front more : List Record) (begun : List Record) → begun ≡ before ++ front → now ≡ begun ++ more → now ≡ before ++ (front ++ more)
drawn_behind now before front more begun e f = f ∙ ap (λ (rs : List Record). rs ++ more) e ∙ append_assoc before front more
