-- Three acts in a row that are a hole, and the words in which it is written.
use Rattle.std.specs.Prelude.{ℤ, int_lt, ◌&&◌, Bool, true, false, List, [], ◌∷◌, ◌++◌, Option, Some, None}
use Rattle.std.specs.Ordering.{int_eq}
use Rattle.apt_block.specs.declared.block.TapeWord.{TapeWord}
use Rattle.apt_block.specs.Block.{tape_word, letter_x, letter_y, letter_z, letter_r, letter_f}
use Rattle.apt_control.specs.declared.Act.TheVariants as acts
use Rattle.apt_control.specs.declared.held.Held.{Held}
use Rattle.apt_post.specs.Blocks.{g, mode_words}
use Rattle.apt_circular.specs.declared.ArcAct.{ArcAct}
use Rattle.apt_circular.specs.declared.ArcAct.TheVariants as arcs
use Rattle.apt_cycle.specs.declared.hole.Hole.{Hole}

-- ---- three acts

-- the end of a rapid move, and that of a cut with its feed
abbrev pub rapid_of : ArcAct → Option (ℤ × ℤ × ℤ)
rapid_of (arcs.Plain (acts.Rapid x y z)) = Some (x, y, z)
rapid_of _ = None

abbrev pub cut_of : ArcAct → Option (ℤ × ℤ × ℤ × ℤ)
cut_of (arcs.Plain (acts.Cut x y z feed)) = Some (x, y, z, feed)
cut_of _ = None

-- one position is over another
abbrev pub is_over : ℤ → ℤ → ℤ → ℤ → Bool
is_over u v x y = int_eq u x && int_eq v y

-- a cut ends straight below, and a rapid move where another ended
abbrev pub is_down : ℤ → ℤ → ℤ → ℤ → ℤ → ℤ → Bool
is_down u v bottom x y top = is_over u v x y && int_lt bottom top

abbrev pub is_back : ℤ → ℤ → ℤ → ℤ → ℤ → ℤ → Bool
is_back p q height x y top = is_over p q x y && int_eq height top

abbrev pub hole_if : Bool → Hole → Option Hole
hole_if true h = Some h
hole_if false h = None

-- a cut straight down from where a rapid move ends, and a rapid move back to there
abbrev pub hole_by : Option (ℤ × ℤ × ℤ) → Option (ℤ × ℤ × ℤ × ℤ) → Option (ℤ × ℤ × ℤ) → Option Hole
hole_by None down back = None
hole_by (Some (x, y, top)) None back = None
hole_by (Some (x, y, top)) (Some (u, v, bottom, feed)) None = None
hole_by (Some (x, y, top)) (Some (u, v, bottom, feed)) (Some (p, q, height)) =
    hole_if (is_down u v bottom x y top && is_back p q height x y top) (record { x = x; y = y; bottom = bottom; top = top; feed = feed })

abbrev pub as_hole : ArcAct → ArcAct → ArcAct → Option Hole
as_hole a b c = hole_by (rapid_of a) (cut_of b) (rapid_of c)

-- the hole at the front of acts
abbrev pub front_hole : List ArcAct → Option Hole
front_hole [] = None
front_hole (a ∷ []) = None
front_hole (a ∷ b ∷ []) = None
front_hole (a ∷ b ∷ c ∷ more) = as_hole a b c

-- the acts of a hole
abbrev pub hole_of : Hole → List ArcAct
hole_of h = arcs.Plain (acts.Rapid h.x h.y h.top) ∷ arcs.Plain (acts.Cut h.x h.y h.bottom h.feed) ∷ arcs.Plain (acts.Rapid h.x h.y h.top) ∷ []

-- ---- its words

-- a hole stands under G90, with all its words
abbrev pub hole_words : Held → Hole → List TapeWord
hole_words held h =
    mode_words held.incremental false
    ++ g 81 ∷ tape_word letter_x h.x ∷ tape_word letter_y h.y ∷ tape_word letter_z h.bottom ∷ tape_word letter_r h.top ∷ tape_word letter_f h.feed ∷ []

abbrev pub behind_hole : Held → Hole → Held
behind_hole held h = record held { motion = Some 81; incremental = false; feed = Some h.feed; x = Some h.x; y = Some h.y; z = Some h.top }
