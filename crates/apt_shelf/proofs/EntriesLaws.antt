-- Laws of files in a list.
use Rattle.std.specs.Prelude.{◌≡◌, ◌≢◌, ℕ, zero, suc, ◌<◌, ◌≤◌, List, [], ◌∷◌, ◌++◌, length, set, slice_get, cond, Bool, true, false, Option, Some, None, option_map}
use Rattle.std.proofs.Common.{ap, sym, ◌∙◌, refl, arith, inl, inr, true≢false, get_or, bytes_eq, String, Vec, string_bytes}
use Rattle.std.proofs.lemmas.List.{map-set, map-append, length-map}
use Rattle.std.proofs.lemmas.Bool.{cases_lt}
use Rattle.std.proofs.lemmas.Slice.Eq.{bytes_eq-Decides}
use Rattle.std.proofs.lemmas.Option.{slice_get-map, slice_get_read, slice_get_past}
use Rattle.std.specs.Ordering.{nat_cmp}
use Rattle.std.specs.Cmp.Lexicographic.{slice_cmp, nat_list_cmp_total, texts_ties, same_text}
use Rattle.std.specs.FinMap.{get, insert, get-insert, get-empty, same_map, slice_cmp-IsAntisymmetric, nat_cmp-IsAntisymmetric}
use Rattle.apt_shelf.specs.Told.{Contents, appended}
use Rattle.apt_shelf.specs.Entries.{Entry, entry, entries, of_entries, contents, held, name_at, IsFirstIndex, IsAbsent}
use Rattle.apt_shelf.proofs.ToldLaws.{same_name, get_inserted, insert_again, insert_held, appended_held, appended_absent}

some_inj : {A : Type 0} (d x y : A) → Some x ≡ Some y → x ≡ y
some_inj d x y e = cc

pub one_name : (q k : List ℕ) → same_name q k ≡ true → q ≡ k
one_name q k e = same_text q k (sym (texts_ties q k ∙ e))

pub other_name : (q k : List ℕ) → q ≢ k → same_name q k ≡ false
other_name q k n = elim (same_name q k) as (λ b. same_name q k ≡ b → b ≡ false) [ true ↦ λ e. absurd (n (one_name q k e)) | false ↦ λ e. refl ] refl

-- another name holds what it held
pub get_other : (m : Contents) (k q v : List ℕ) → q ≢ k → get (insert m k v) q ≡ get m q
get_other m k q v n = get-insert nat_list_cmp_total m k v q ∙ ap (λ b. cond b (Some v) (get m q)) (other_name q k n)

swapped : {A : Type 0} (a b : Bool) (x y z : A) → (a ≡ true → b ≡ true → ⊥) → cond a x (cond b y z) ≡ cond b y (cond a x z)
swapped true true x y z apart = absurd (apart refl refl)
swapped true false x y z apart = refl
swapped false true x y z apart = refl
swapped false false x y z apart = refl

pub insert_swap : (m : Contents) (k v l w : List ℕ) → k ≢ l → insert (insert m k v) l w ≡ insert (insert m l w) k v
insert_swap m k v l w n = same_map nat_list_cmp_total (slice_cmp-IsAntisymmetric nat_cmp-IsAntisymmetric) _ _ (λ q.
    get-insert nat_list_cmp_total (insert m k v) l w q
    ∙ ap (cond (same_name q l) (Some w)) (get-insert nat_list_cmp_total m k v q)
    ∙ swapped (same_name q l) (same_name q k) (Some w) (Some v) (get m q) (λ e f. n (sym (one_name q k f) ∙ one_name q l e))
    ∙ sym (get-insert nat_list_cmp_total (insert m l w) k v q ∙ ap (cond (same_name q k) (Some v)) (get-insert nat_list_cmp_total m l w q)))

-- the facts at the rest of a list
later : (e : Entry) (es : List Entry) (k : List ℕ) (i : ℕ) → IsFirstIndex (e ∷ es) k (suc i) → IsFirstIndex es k i
later e es k i p = record { within = omega (arith, p.within); here = p.here; before = λ j h. p.before (suc j) (omega arith) }

first_differs : (e : Entry) (es : List Entry) (k : List ℕ) (i : ℕ) → IsFirstIndex (e ∷ es) k (suc i) → k ≢ e.0
first_differs e es k i p h = p.before 0 (omega arith) (ap Some (sym h))

-- a write at the place of a name
pub put_at : (es : List Entry) (i : ℕ) (k v : List ℕ) → IsFirstIndex es k i → of_entries (set es i (k, v)) ≡ insert (of_entries es) k v
put_at [] i k v p = absurd (omega (arith, p.within))
put_at (e ∷ es) zero k v p =
    let same : e.0 ≡ k = some_inj k _ _ p.here in
    sym (ap (λ n. insert (insert (of_entries es) n e.1) k v) same ∙ insert_again (of_entries es) k e.1 v)
put_at (e ∷ es) (suc i) k v p =
    ap (λ m. insert m e.0 e.1) (put_at es i k v (later e es k i p))
    ∙ insert_swap (of_entries es) k v e.0 e.1 (first_differs e es k i p)

-- what a name holds
pub get_at_index : (es : List Entry) (i : ℕ) (k : List ℕ) → IsFirstIndex es k i → held (of_entries es) k ≡ option_map (λ e. e.1) (slice_get es i)
get_at_index [] i k p = absurd (omega (arith, p.within))
get_at_index (e ∷ es) zero k p =
    let same : e.0 ≡ k = some_inj k _ _ p.here in
    ap (λ n. held (insert (of_entries es) n e.1) k) same ∙ get_inserted (of_entries es) k e.1
get_at_index (e ∷ es) (suc i) k p =
    get-insert nat_list_cmp_total (of_entries es) e.0 e.1 k
    ∙ ap (λ b. cond b (Some e.1) (held (of_entries es) k)) (other_name k e.0 (first_differs e es k i p))
    ∙ get_at_index es i k (later e es k i p)

pub get_absent : (es : List Entry) (k : List ℕ) → IsAbsent es k → held (of_entries es) k ≡ None
get_absent [] k a = get-empty (slice_cmp nat_cmp) k
get_absent (e ∷ es) k a =
    get-insert nat_list_cmp_total (of_entries es) e.0 e.1 k
    ∙ ap (λ b. cond b (Some e.1) (held (of_entries es) k)) (other_name k e.0 (λ h. a 0 (ap Some (sym h))))
    ∙ get_absent es k (λ j. a (suc j))

-- a new name at the end
pub put_new : (es : List Entry) (k v : List ℕ) → IsAbsent es k → of_entries (es ++ (k, v) ∷ []) ≡ insert (of_entries es) k v
put_new [] k v a = refl
put_new (e ∷ es) k v a =
    ap (λ m. insert m e.0 e.1) (put_new es k v (λ j. a (suc j)))
    ∙ insert_swap (of_entries es) k v e.0 e.1 (λ h. a 0 (ap Some (sym h)))

bytes_of : {A B : Type 0} (f : Option (String A × Vec ℕ B)) → option_map (λ e. e.1) (option_map entry f) ≡ option_map (λ f. f.1.items) f
bytes_of None = refl
bytes_of (Some f) = refl

-- the same laws over the files themselves
pub held_at_index : {A B : Type 0} (files : List (String A × Vec ℕ B)) (i : ℕ) (name : List ℕ) → IsFirstIndex (entries files) name i → held (contents files) name ≡ option_map (λ f. f.1.items) (slice_get files i)
held_at_index files i name p =
    get_at_index (entries files) i name p
    ∙ ap (option_map (λ e. e.1)) (slice_get-map entry files i)
    ∙ bytes_of (slice_get files i)

pub put_file : {A B : Type 0} (files : List (String A × Vec ℕ B)) (i : ℕ) (f : String A × Vec ℕ B) (name : List ℕ) → IsFirstIndex (entries files) name i → string_bytes f.0 ≡ name → contents (set files i f) ≡ insert (contents files) name f.1.items
put_file files i f name p e =
    ap of_entries (map-set entry files i f)
    ∙ ap (λ n. of_entries (set (entries files) i (n, f.1.items))) e
    ∙ put_at (entries files) i name f.1.items p

pub push_file : {A B : Type 0} (files : List (String A × Vec ℕ B)) (f : String A × Vec ℕ B) (name : List ℕ) → IsAbsent (entries files) name → string_bytes f.0 ≡ name → contents (files ++ f ∷ []) ≡ insert (contents files) name f.1.items
push_file files f name a e =
    ap of_entries (map-append entry files (f ∷ []))
    ∙ ap (λ n. of_entries (entries files ++ (n, f.1.items) ∷ [])) e
    ∙ put_new (entries files) name f.1.items a

-- what the name at a place is, as the test of two texts told
name_here : {A B : Type 0} (files : List (String A × Vec ℕ B)) (i : ℕ) (f : String A × Vec ℕ B) → i < length files → f ≡ get_or files i f → name_at (entries files) i ≡ Some (string_bytes f.0)
name_here files i f h e = ap (option_map (λ e. e.0)) (slice_get-map entry files i ∙ ap (option_map entry) (slice_get_read files (length files) i f refl h e))

pub name_is : {A B : Type 0} (files : List (String A × Vec ℕ B)) (i : ℕ) (f : String A × Vec ℕ B) (text name : List ℕ) → i < length files → f ≡ get_or files i f → text ≡ string_bytes f.0 → bytes_eq text name ≡ true → name_at (entries files) i ≡ Some name
name_is files i f text name h e t b = name_here files i f h e ∙ ap Some (sym t ∙ (bytes_eq-Decides text name).0 b)

pub name_is_other : {A B : Type 0} (files : List (String A × Vec ℕ B)) (i : ℕ) (f : String A × Vec ℕ B) (text name : List ℕ) → i < length files → f ≡ get_or files i f → text ≡ string_bytes f.0 → bytes_eq text name ≡ false → name_at (entries files) i ≢ Some name
name_is_other files i f text name h e t b there =
    let same : text ≡ name = t ∙ some_inj name _ _ (sym (name_here files i f h e) ∙ there) in
    true≢false (sym ((bytes_eq-Decides text name).1 same) ∙ b)

-- no name at all stands past the end
pub is_absent : {A B : Type 0} (files : List (String A × Vec ℕ B)) (n : ℕ) (name : List ℕ) → length files ≤ n → ((j : ℕ) → j < n → name_at (entries files) j ≢ Some name) → IsAbsent (entries files) name
is_absent files n name h below j there =
    elim (cases_lt j n) [
      | inl less ↦ below j less there
      | inr past ↦
          let over : length (entries files) ≤ j = omega (arith, length-map files entry) in
          let none : name_at (entries files) j ≡ None = ap (option_map (λ e. e.0)) (slice_get_past (entries files) j over) in
          cc
    ]

-- the name at the place that was found
pub name_found : {A B : Type 0} (files : List (String A × Vec ℕ B)) (i : ℕ) (f : String A × Vec ℕ B) (name : List ℕ) → IsFirstIndex (entries files) name i → slice_get files i ≡ Some f → string_bytes f.0 ≡ name
name_found files i f name p e = some_inj name _ _ (sym (ap (option_map (λ e. e.0)) (slice_get-map entry files i ∙ ap (option_map entry) e)) ∙ p.here)

pub at_index : {A B : Type 0} (files : List (String A × Vec ℕ B)) (i : ℕ) (f : String A × Vec ℕ B) (name : List ℕ) → IsFirstIndex (entries files) name i → f ≡ get_or files i f → slice_get files i ≡ Some f
at_index files i f name p e = slice_get_read files (length files) i f refl (omega (arith, p.within, length-map files entry)) e

pub held_file : {A B : Type 0} (files : List (String A × Vec ℕ B)) (i : ℕ) (f : String A × Vec ℕ B) (name : List ℕ) → IsFirstIndex (entries files) name i → f ≡ get_or files i f → held (contents files) name ≡ Some f.1.items
held_file files i f name p e = held_at_index files i name p ∙ ap (option_map (λ f. f.1.items)) (at_index files i f name p e)

-- the file at the place of a name, with other bytes; `seen` is the list that was searched
pub file_rewritten : {A B : Type 0} (seen files : List (String A × Vec ℕ B)) (i : ℕ) (f : String A × Vec ℕ B) (fresh : Vec ℕ B) (name v : List ℕ) → seen ≡ files
    → IsFirstIndex (entries seen) name i → f ≡ get_or files i f → fresh.items ≡ v → contents (set files i (f.0, fresh)) ≡ insert (contents files) name v
file_rewritten seen files i f fresh name v d p e w =
    let q : IsFirstIndex (entries files) name i = rw d at p in
    put_file files i (f.0, fresh) name q (name_found files i f name q (at_index files i f name q e)) ∙ ap (insert (contents files) name) w

-- the file of a name, with more bytes
pub file_appended : {A B : Type 0} (seen files : List (String A × Vec ℕ B)) (i : ℕ) (f : String A × Vec ℕ B) (fresh : Vec ℕ B) (name piece : List ℕ) → seen ≡ files
    → IsFirstIndex (entries seen) name i → f ≡ get_or files i f → fresh.items ≡ f.1.items ++ piece → contents (set files i (f.0, fresh)) ≡ appended (contents files) name piece
file_appended seen files i f fresh name piece d p e w =
    let q : IsFirstIndex (entries files) name i = rw d at p in
    file_rewritten seen files i f fresh name _ d p e w ∙ sym (appended_held (contents files) name _ piece (held_file files i f name q e))

-- the file of a name, with the same bytes
pub file_kept : {A B : Type 0} (seen files : List (String A × Vec ℕ B)) (i : ℕ) (f : String A × Vec ℕ B) (fresh : Vec ℕ B) (name : List ℕ) → seen ≡ files
    → IsFirstIndex (entries seen) name i → f ≡ get_or files i f → fresh.items ≡ f.1.items → contents (set files i (f.0, fresh)) ≡ contents files
file_kept seen files i f fresh name d p e w =
    let q : IsFirstIndex (entries files) name i = rw d at p in
    file_rewritten seen files i f fresh name _ d p e w ∙ insert_held (contents files) name _ (held_file files i f name q e)

-- a new file at the end of the list
pub file_pushed : {A B : Type 0} (seen files grown : List (String A × Vec ℕ B)) (text : String A) (fresh : Vec ℕ B) (name v : List ℕ) → seen ≡ files
    → IsAbsent (entries seen) name → grown ≡ files ++ (text, fresh) ∷ [] → string_bytes text ≡ name → fresh.items ≡ v → contents grown ≡ insert (contents files) name v
file_pushed seen files grown text fresh name v d a g t w =
    let b : IsAbsent (entries files) name = rw d at a in
    ap contents g ∙ push_file files (text, fresh) name b t ∙ ap (insert (contents files) name) w

pub file_begun : {A B : Type 0} (seen files grown : List (String A × Vec ℕ B)) (text : String A) (fresh : Vec ℕ B) (name piece : List ℕ) → seen ≡ files
    → IsAbsent (entries seen) name → grown ≡ files ++ (text, fresh) ∷ [] → string_bytes text ≡ name → fresh.items ≡ piece → contents grown ≡ appended (contents files) name piece
file_begun seen files grown text fresh name piece d a g t w =
    let b : IsAbsent (entries files) name = rw d at a in
    file_pushed seen files grown text fresh name piece d a g t w ∙ sym (appended_absent (contents files) name piece (get_absent (entries files) name b))
