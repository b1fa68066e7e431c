-- Where there is room for all vertices, no step has too many.
use Rattle.std.proofs.Common.{◌≡◌, ℕ, ◌+◌, ◌-◌, ◌≤◌, Bool, true, false, List, [], ◌∷◌, map, Some, None, refl, arith}
use Rattle.std.specs.Prelude.{nat_lt, sum_by, if◌then◌else◌}
use Rattle.std.proofs.lemmas.Bool.{le-ltb}
use Rattle.std.proofs.lemmas.List.Sums.{sum_by-cons}
use Rattle.apt_records.specs.declared.record.Record.{Record}
use Rattle.apt_meaning.specs.Compiled.{most_points}
use Rattle.apt_motion.specs.Drafts.{ArcAt, chords_of, is_open, known, first_or_none, behind_first, weight, left_behind, Mark, mark_at, overfull, too_many, nowhere, past_limit}

-- how many there are in all
abbrev total : List ℕ → ℕ
total [] = 0
total (n ∷ ns) = n + total ns

first_taken : (sizes : List ℕ) → first_or_none sizes + total (behind_first sizes) ≡ total sizes
first_taken [] = refl
first_taken (n ∷ ns) = refl

weighed : (due : Bool) (k : ℕ) (sizes : List ℕ)
    → (if due then first_or_none sizes else k) + total (if due then behind_first sizes else sizes) ≤ k + total sizes
weighed true k sizes = omega (arith, first_taken sizes)
weighed false k sizes = omega arith

passes : (left w : ℕ) (mark : Mark) (rs : List Record) (sizes : List ℕ) → w ≤ left → too_many (left - w) mark rs sizes ≡ None
    → (if nat_lt left w then Some (overfull mark) else too_many (left - w) mark rs sizes) ≡ None
passes left w mark rs sizes fits rest = rw (le-ltb left w fits) rest

room_for : (rs : List Record) (left : ℕ) (mark : Mark) (sizes : List ℕ) → sum_by known rs + total sizes ≤ left → too_many left mark rs sizes ≡ None
room_for [] left mark sizes room = refl
room_for (r ∷ rs) left mark sizes room =
    let all : known r + sum_by known rs + total sizes ≤ left = omega (arith, room, sum_by-cons known r rs) in
    let here : weight r sizes + total (left_behind r sizes) ≤ known r + total sizes = weighed (is_open r) (known r) sizes in
    passes left (weight r sizes) (mark_at r mark) rs (left_behind r sizes) (omega (arith, all, here))
    (room_for rs (left - weight r sizes) (mark_at r mark) (left_behind r sizes) (omega (arith, all, here)))

total_is : (qs : List ArcAt) → total (map chords_of qs) ≡ sum_by chords_of qs
total_is [] = refl
total_is (q ∷ qs) = omega (arith, total_is qs, sum_by-cons chords_of q qs)

pub none_past : (rs : List Record) (qs : List ArcAt) (room : ℕ) → sum_by known rs + room ≡ most_points → sum_by chords_of qs ≤ room → past_limit rs qs ≡ None
none_past rs qs room beside fits = room_for rs most_points nowhere (map chords_of qs) (omega (arith, beside, fits, total_is qs))
