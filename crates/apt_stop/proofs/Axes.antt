-- Where surfaces have no axis on which they touch, and where the quarter points of an arc lie.
use Rattle.std.proofs.Common.{◌≡◌, ◌↔◌, refl, sym, subst, true≢false, arith, Bool, true, false, Option, Some, None}
use Rattle.std.specs.Prelude.{◌==◌, if◌then◌else◌}
use Rattle.std.specs.Bool.{Decides}
use Rattle.std.specs.Option.{IsNone}
use Rattle.std.proofs.lemmas.Bool.Decides.{Decides-eqb, Decides-like}
use Rattle.apt_plane.specs.declared.figures.Pt.{Pt}
use Rattle.apt_plane.specs.declared.figures.Dir.{Dir}
use Rattle.apt_plane.specs.declared.figures.Axis.{Axis}
use Rattle.apt_plane.specs.declared.figures.Circ.{Circ}
use Rattle.apt_plane.specs.declared.figures.Surface.{Surface}
use Rattle.apt_plane.specs.declared.figures.Surface.TheVariants as surfaces
use Rattle.apt_plane.specs.Ranges.{IsPoint, IsDir, IsSurface}
use Rattle.apt_plane.specs.Vectors.{displacement, length_squared}
use Rattle.apt_canon.specs.Circles.{are_concentric}
use Rattle.apt_canon.proofs.Ways.{one_point, way-IsDir}
use Rattle.apt_plane.proofs.Displacements.{no_way}
use Rattle.apt_plane.proofs.Turned.{perp_dir}
use Rattle.apt_stop.specs.Tangencies.{axis, touching_half, tangent_axis, HaveNoAxis, axis_towards, IsElsewhere}

concentric_tells : (c d : Circ) → Decides (are_concentric c d) (c.c ≡ d.c)
concentric_tells c d =
    let n = length_squared (displacement c.c d.c) in
    Decides-like (n == 0) (λ e. one_point c.c d.c (omega (arith, e))) (λ e. no_way c.c d.c e) (Decides-eqb n 0)

none_when : (test : Bool) (P : Type 0) (x : Axis) → Decides test P → IsNone (if test then None else Some x) ↔ P
none_when true P x tells = (λ h. tells.0 refl, λ p. refl)
none_when false P x tells = (λ h. absurd (true≢false h), λ p. absurd (true≢false (sym (tells.1 p))))

axis_tells : (s t : Surface) → IsNone (tangent_axis s t) ↔ HaveNoAxis s t
axis_tells (surfaces.Line l) (surfaces.Line k) = (λ h. tt, λ h. refl)
axis_tells (surfaces.Line l) (surfaces.Circ c) = (λ h. true≢false h, λ h. absurd h)
axis_tells (surfaces.Circ c) (surfaces.Line l) = (λ h. true≢false h, λ h. absurd h)
axis_tells (surfaces.Circ c) (surfaces.Circ d) =
    none_when (are_concentric c d) (c.c ≡ d.c) (axis c.c (displacement c.c d.c) (touching_half c d)) (concentric_tells c d)

pub no_axis : (r : Option Axis) (s t : Surface) → r ≡ tangent_axis s t → IsNone r ↔ HaveNoAxis s t
no_axis r s t e = rw e (axis_tells s t)

-- ---- the quarter points of an arc that stops at a surface that is elsewhere lie in a direction
pub towards-IsDir : (c : Pt) (s : Surface) → IsPoint c → IsSurface s → IsElsewhere c s → IsDir (axis_towards c s)
towards-IsDir c (surfaces.Line l) is_c is elsewhere = perp_dir l.dir is.dir
towards-IsDir c (surfaces.Circ d) is_c is elsewhere = way-IsDir c d.c is_c is.centre elsewhere

pub towards_is_dir : (c : Pt) (s : Surface) (d : Dir) → d ≡ axis_towards c s → IsPoint c → IsSurface s → IsElsewhere c s → IsDir d
towards_is_dir c s d e is_c is elsewhere = subst IsDir (sym e) (towards-IsDir c s is_c is elsewhere)
