-- Bands by their two edges.
use Rattle.std.proofs.Common.{refl, ◌≡◌, ◌↔◌, ◌⊎◌, inl, inr, ◌∙◌, ap, arith, Bool, true, false, cond, ℕ, ℤ, pos, neg_ℤ, ◌+ℤ◌, ◌-ℤ◌, ◌≤ℤ◌, unsigned_abs}
use Rattle.std.specs.Prelude.{int_le}
use Rattle.std.proofs.lemmas.Int.{ints}
use Rattle.apt_num.specs.declared.Sign.{Sign}
use Rattle.apt_num.specs.declared.Sign.TheVariants as signs
use Rattle.apt_plane.specs.declared.figures.Surface.{Surface}
use Rattle.apt_plane.specs.declared.figures.Surface.TheVariants as surfaces
use Rattle.apt_plane.specs.declared.figures.Band.{Band}
use Rattle.apt_offset.specs.Targets.{band, band_at, greater}
use Rattle.apt_offset.specs.Bands.{IsInBand, HasEdgeWithin}

pub same_band : (a b c d : ℤ) → a ≡ c → b ≡ d → band a b ≡ band c d
same_band a b c d e f = λ i. band (e i) (f i)

pub band_about : (lo hi middle both most : ℤ) → lo ≡ middle -ℤ both → hi ≡ middle +ℤ both → both ≡ most
    → band lo hi ≡ band (middle -ℤ most) (middle +ℤ most)
band_about lo hi middle both most e f same =
    same_band lo hi (middle -ℤ both) (middle +ℤ both) e f ∙ ap (λ (z : ℤ). band (middle -ℤ z) (middle +ℤ z)) same

-- at most the greater of two lengths: at most one of them
by_order : (b : Bool) (d : ℕ) (i o : ℤ) → int_le i o ≡ b → pos d ≤ℤ cond b o i ↔ ((pos d ≤ℤ i) ⊎ (pos d ≤ℤ o))
by_order true d i o e = (λ h. inr h, λ h. elim h [ inl low ↦ omega (arith, ints) | inr high ↦ high ])
by_order false d i o e = (λ h. inl h, λ h. elim h [ inl low ↦ low | inr high ↦ omega (arith, ints) ])

at_most_greater : (d : ℕ) (i o : ℤ) → pos d ≤ℤ greater i o ↔ ((pos d ≤ℤ i) ⊎ (pos d ≤ℤ o))
at_most_greater d i o = by_order (int_le i o) d i o refl

-- a distance is within the greater of two lengths of a middle where it is at most one of them away
about_middle : (middle x i o : ℤ) (d : ℕ) → d ≡ unsigned_abs (middle -ℤ x)
    → ((middle -ℤ greater i o) ≤ℤ x) × (x ≤ℤ (middle +ℤ greater i o)) ↔ ((pos d ≤ℤ i) ⊎ (pos d ≤ℤ o))
about_middle middle x i o d e =
    let far = at_most_greater d i o in
    (λ h. far.0 (omega (arith, ints)), λ h. let near : pos d ≤ℤ greater i o = far.1 h in (omega (arith, ints), omega (arith, ints)))

about_none : (x i o : ℤ) (d : ℕ) → d ≡ unsigned_abs x
    → (neg_ℤ (greater i o) ≤ℤ x) × (x ≤ℤ greater i o) ↔ ((pos d ≤ℤ i) ⊎ (pos d ≤ℤ o))
about_none x i o d e =
    let far = at_most_greater d i o in
    (λ h. far.0 (omega (arith, ints)), λ h. let near : pos d ≤ℤ greater i o = far.1 h in (omega (arith, ints), omega (arith, ints)))

-- a band is where the cutter's edge is within the tolerances of the surface
pub edge_in_band : (surface : Surface) (v : Sign) (r i o x : ℤ) → IsInBand (band_at surface v r i o) x ↔ HasEdgeWithin surface v r i o x
edge_in_band (surfaces.Line l) signs.Plus r i o x = (λ h. (omega (arith, ints), omega (arith, ints)), λ h. (omega (arith, ints), omega (arith, ints)))
edge_in_band (surfaces.Line l) signs.Minus r i o x = (λ h. (omega (arith, ints), omega (arith, ints)), λ h. (omega (arith, ints), omega (arith, ints)))
edge_in_band (surfaces.Line l) signs.Zero r i o x = about_none x i o _ refl
edge_in_band (surfaces.Circ c) signs.Plus r i o x = (λ h. (omega (arith, ints), omega (arith, ints)), λ h. (omega (arith, ints), omega (arith, ints)))
edge_in_band (surfaces.Circ c) signs.Minus r i o x = (λ h. (omega (arith, ints), omega (arith, ints)), λ h. (omega (arith, ints), omega (arith, ints)))
edge_in_band (surfaces.Circ c) signs.Zero r i o x = about_middle c.r x i o _ refl

pub edge_in : (b : Band) (surface : Surface) (v : Sign) (r i o : ℤ) → b ≡ band_at surface v r i o
    → (x : ℤ) → IsInBand b x ↔ HasEdgeWithin surface v r i o x
edge_in b surface v r i o e x = rw e (edge_in_band surface v r i o x)
