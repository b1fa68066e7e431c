-- Laws of what a started read goes over.
use Rattle.std.specs.Prelude.{◌≡◌, ◌≢◌, ℕ, zero, suc, ◌≤◌, ◌==◌, if◌then◌else◌, List, [], ◌∷◌, ◌++◌, length, take, drop, set, unwrap_or, Bool, true, false, Option, Some, None, option_map}
use Rattle.std.specs.Option.{ForSome}
use Rattle.std.specs.declared.alloc.Global.{Global}
use Rattle.std.proofs.Common.{ap, sym, subst, ◌∙◌, refl, arith, get_or, eqb-true, String, Vec}
use Rattle.std.proofs.lemmas.Bool.{eqb-false}
use Rattle.std.proofs.lemmas.List.{append-nil, length-append, length-set, take-append-le}
use Rattle.std.proofs.lemmas.Option.{none-some, same_Some}
use Rattle.apt_shelf.specs.declared.reading.Source.{Source}
use Rattle.apt_shelf.specs.declared.reading.Source.TheVariants as sources
use Rattle.apt_shelf.specs.declared.reading.Reading.{Reading}
use Rattle.apt_shelf.specs.Entries.{entries, IsFirstIndex}
use Rattle.apt_shelf.specs.Reading.{bytes_at, bytes_of, files_needed, left_in, IsWithin, moved_source, moved, Grows}
use Rattle.apt_shelf.proofs.EntriesLaws.{at_index}

-- another file, where one is written
other_file : {A B : Type 0} (files : List (String A × Vec ℕ B)) (i : ℕ) (f : String A × Vec ℕ B) (j : ℕ) → j ≢ i → bytes_at (set files i f) j ≡ bytes_at files j
other_file [] i f j n = refl
other_file (g ∷ files) zero f zero n = absurd (n refl)
other_file (g ∷ files) zero f (suc j) n = refl
other_file (g ∷ files) (suc i) f zero n = refl
other_file (g ∷ files) (suc i) f (suc j) n = other_file files i f j (λ e. n (ap suc e))

file_bytes : {A B : Type 0} (files : List (String A × Vec ℕ B)) (i : ℕ) (f : String A × Vec ℕ B) (name : List ℕ) → IsFirstIndex (entries files) name i → f ≡ get_or files i f → bytes_at files i ≡ f.1.items
file_bytes files i f name p e = ap (λ o. unwrap_or (option_map (λ g. g.1.items) o) []) (at_index files i f name p e)

longer_file : {A B : Type 0} (files : List (String A × Vec ℕ B)) (i : ℕ) (f : String A × Vec ℕ B) (piece : List ℕ) (j : ℕ) → f.1.items ≡ bytes_at files i ++ piece
    → (more : List ℕ) × (bytes_at (set files i f) j ≡ bytes_at files j ++ more)
longer_file [] i f piece j e = ([], refl)
longer_file (g ∷ files) zero f piece zero e = (piece, e)
longer_file (g ∷ files) zero f piece (suc j) e = ([], sym (append-nil (bytes_at files j)))
longer_file (g ∷ files) (suc i) f piece zero e = ([], sym (append-nil g.1.items))
longer_file (g ∷ files) (suc i) f piece (suc j) e = longer_file files i f piece j e

one_more_file : {A B : Type 0} (files : List (String A × Vec ℕ B)) (f : String A × Vec ℕ B) (j : ℕ) → (more : List ℕ) × (bytes_at (files ++ f ∷ []) j ≡ bytes_at files j ++ more)
one_more_file [] f j = (bytes_at (f ∷ []) j, refl)
one_more_file (g ∷ files) f zero = ([], sym (append-nil g.1.items))
one_more_file (g ∷ files) f (suc j) = one_more_file files f j

-- the file of a name, with more bytes
pub grows_there : {A B : Type 0} (seen files : List (String A × Vec ℕ B)) (i : ℕ) (f : String A × Vec ℕ B) (fresh : Vec ℕ B) (name piece : List ℕ) → seen ≡ files
    → IsFirstIndex (entries seen) name i → f ≡ get_or files i f → fresh.items ≡ f.1.items ++ piece → Grows files (set files i (f.0, fresh))
grows_there seen files i f fresh name piece d p e w =
    let q : IsFirstIndex (entries files) name i = rw d at p in
    let longer : fresh.items ≡ bytes_at files i ++ piece = w ∙ ap (λ bytes. bytes ++ piece) (sym (file_bytes files i f name q e)) in
    (omega (arith, length-set files i (f.0, fresh)), λ j. longer_file files i (f.0, fresh) piece j longer)

-- a new file at the end of the list
pub grows_behind : {A B : Type 0} (files grown : List (String A × Vec ℕ B)) (f : String A × Vec ℕ B) → grown ≡ files ++ f ∷ [] → Grows files grown
grows_behind files grown f e = rw e (omega (arith, length-append files (f ∷ [])), one_more_file files f)

pub grows_same : {A B : Type 0} (files now : List (String A × Vec ℕ B)) → now ≡ files → Grows files now
grows_same files now e = rw e (omega arith, λ i. ([], sym (append-nil (bytes_at files i))))

-- what is read of files that grow
source_grown : {A B : Type 0} (files now : List (String A × Vec ℕ B)) (s : Source) (n : ℕ) → Grows files now → files_needed s ≤ length files → n ≤ length (bytes_of files s)
    → (files_needed s ≤ length now) × (n ≤ length (bytes_of now s)) × (take n (bytes_of now s) ≡ take n (bytes_of files s))
source_grown files now (sources.File i) n g few h =
    let more = g.1 i in
    let long : length (bytes_at now i) ≡ length (bytes_at files i ++ more.0) = ap length more.1 in
    (omega (arith, few, g.0), omega (arith, long, h, length-append (bytes_at files i) more.0), ap (take n) more.1 ∙ take-append-le n (bytes_at files i) more.0 h)
source_grown files now (sources.Held bytes) n g few h = (omega arith, h, refl)

reading_grown : {A B : Type 0} (files now : List (String A × Vec ℕ B)) (r : Reading) → Grows files now → IsWithin files r → IsWithin now r × (left_in now r ≡ left_in files r)
reading_grown files now r g w =
    let s = source_grown files now r.source r.end g w.0 w.2 in
    ((s.0, w.1, s.1), ap (drop r.at) s.2)

pub left_grown : {A B : Type 0} (files now : List (String A × Vec ℕ B)) (reading : Option Reading) → Grows files now → ForSome reading (IsWithin files)
    → ForSome reading (IsWithin now) × (option_map (left_in now) reading ≡ option_map (left_in files) reading)
left_grown files now None g w = (λ r e. absurd (none-some r e), refl)
left_grown files now (Some r) g w =
    let grown = reading_grown files now r g (w r refl) in
    (λ x e. subst (IsWithin now) (same_Some r x e) grown.0, ap Some grown.1)

-- what is read once the bytes of a file are moved out of it
source_moved : {A : Type 0} (files now : List (String A × Vec ℕ Global)) (place : ℕ) (bytes : Vec ℕ Global) (s : Source) → length now ≡ length files → bytes.items ≡ bytes_at files place
    → ((j : ℕ) → j ≢ place → bytes_at now j ≡ bytes_at files j) → files_needed s ≤ length files
    → (files_needed (moved_source place (sources.Held bytes) s) ≤ length now) × (bytes_of now (moved_source place (sources.Held bytes) s) ≡ bytes_of files s)
source_moved files now place bytes (sources.File i) l there others few = by_test (i == place) (eqb-true i place) (eqb-false i place)
  where
    by_test : (b : Bool) → (b ≡ true → i ≡ place) → (b ≡ false → i ≢ place)
        → (files_needed (if b then sources.Held bytes else sources.File i) ≤ length now) × (bytes_of now (if b then sources.Held bytes else sources.File i) ≡ bytes_at files i)
    by_test true same apart = (omega arith, there ∙ ap (bytes_at files) (sym (same refl)))
    by_test false same apart = (omega (arith, l, few), others i (apart refl))
source_moved files now place bytes (sources.Held own) l there others few = (omega arith, refl)

left_moved : {A : Type 0} (files now : List (String A × Vec ℕ Global)) (place : ℕ) (bytes : Vec ℕ Global) (reading : Option Reading) → length now ≡ length files → bytes.items ≡ bytes_at files place
    → ((j : ℕ) → j ≢ place → bytes_at now j ≡ bytes_at files j) → ForSome reading (IsWithin files)
    → ForSome (option_map (moved place (sources.Held bytes)) reading) (IsWithin now)
    × (option_map (left_in now) (option_map (moved place (sources.Held bytes)) reading) ≡ option_map (left_in files) reading)
left_moved files now place bytes None l there others w = (λ r e. absurd (none-some r e), refl)
left_moved files now place bytes (Some r) l there others w =
    let within : IsWithin files r = w r refl in
    let s = source_moved files now place bytes r.source l there others within.0 in
    let stands : IsWithin now (moved place (sources.Held bytes) r) = (s.0, within.1, rw s.1 within.2) in
    (λ x e. subst (IsWithin now) (same_Some _ x e) stands, ap (λ bs. Some (drop r.at (take r.end bs))) s.1)

-- the file at the place of a name, whose bytes are moved out; `seen` is the list that was searched
pub left_held : {A : Type 0} (seen files : List (String A × Vec ℕ Global)) (i : ℕ) (f : String A × Vec ℕ Global) (fresh bytes : Vec ℕ Global) (name : List ℕ) (before after : Option Reading) → seen ≡ files
    → IsFirstIndex (entries seen) name i → f ≡ get_or files i f → bytes ≡ f.1 → after ≡ option_map (moved i (sources.Held bytes)) before → ForSome before (IsWithin files)
    → ForSome after (IsWithin (set files i (f.0, fresh))) × (option_map (left_in (set files i (f.0, fresh))) after ≡ option_map (left_in files) before)
left_held seen files i f fresh bytes name before after d p e b a w =
    let q : IsFirstIndex (entries files) name i = rw d at p in
    let there : bytes.items ≡ bytes_at files i = rw b (sym (file_bytes files i f name q e)) in
    rw a (left_moved files (set files i (f.0, fresh)) i bytes before (length-set files i (f.0, fresh)) there (other_file files i (f.0, fresh)) w)
