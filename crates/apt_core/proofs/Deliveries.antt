-- What two writings leave, of which the second follows the first.
use Rattle.std.proofs.Common.{◌≡◌, ◌∙◌, ◌++◌, inl, inr, ℕ, List, [], length, take, Option, Some, None, refl, sym, ap, subst, arith, append_assoc}
use Rattle.std.proofs.Math.Seq.{take-append_seam, take-length}
use Rattle.std.proofs.lemmas.List.{append-nil, length-append}
use Rattle.std.specs.FinMap.{insert}
use Rattle.apt_shelf.specs.Told.{Contents, Steps, KeepsPrefix}
use Rattle.apt_shelf.specs.Files.{AddsAny, AddsFront, WritesPrefix}
use Rattle.apt_shelf.proofs.ToldLaws.{adds_written, keeps_prefix}
use Rattle.apt_core.specs.Outputs.{Output}
use Rattle.apt_core.specs.Delivery.{with_output, WritesFront}

-- a front part of a file was written
front_written : (t₀ t₁ : Option Contents) (name done left whole : List ℕ) → done ++ left ≡ whole → Steps (λ m. insert m name done) t₀ t₁ → WritesPrefix name whole t₀ t₁
front_written None t₁ name done left whole e s = tt
front_written (Some m) t₁ name done left whole e s =
    inr (length done, omega (arith, length-append done left, ap length e), s ∙ ap (λ d. Some (insert m name d)) (sym (take-append_seam done left) ∙ ap (take (length done)) e))

-- ---- a file that is being written: behind what stands under the name come the bytes that are held, and then those that are left

abbrev pub IsWriting : List ℕ → List ℕ → List ℕ → List ℕ → Option Contents → Option Contents → Type 0
IsWriting name whole held left before now = (done : List ℕ) × (done ++ (held ++ left) ≡ whole) × Steps (λ m. insert m name done) before now

-- it is cut short
pub writing_stopped : (t₀ t₁ : Option Contents) (name whole held left : List ℕ) → IsWriting name whole held left t₀ t₁ → WritesPrefix name whole t₀ t₁
writing_stopped t₀ t₁ name whole held left is = front_written t₀ t₁ name is.0 (held ++ left) whole is.1 is.2

next_held : (done held left piece after whole : List ℕ) → done ++ (held ++ left) ≡ whole → left ≡ piece ++ after → done ++ ((held ++ piece) ++ after) ≡ whole
next_held done held left piece after whole e f = rw (append_assoc, ← f) e

-- the next piece is refused
pub piece_refused : (t₀ t₁ t₂ : Option Contents) (w : Option (List ℕ)) (name whole held left piece after : List ℕ) → w ≡ Some name → IsWriting name whole held left t₀ t₁
    → left ≡ piece ++ after → KeepsPrefix w (held ++ piece) t₁ t₂ → WritesPrefix name whole t₀ t₂
piece_refused t₀ t₁ t₂ w name whole held left piece after n is next keeps =
    keeps_prefix t₀ t₁ t₂ w name is.0 (held ++ piece) after whole n (next_held is.0 held left piece after whole is.1 next) is.2 keeps

-- the next piece is taken
pub piece_taken : (t₀ t₁ t₂ : Option Contents) (w : Option (List ℕ)) (name whole held left piece after now : List ℕ) → w ≡ Some name → IsWriting name whole held left t₀ t₁
    → left ≡ piece ++ after → AddsFront w (held ++ piece) now t₁ t₂ → IsWriting name whole now after t₀ t₂
piece_taken t₀ t₁ t₂ w name whole held left piece after now n is next adds = (
  is.0 ++ adds.0,
  rw (append_assoc, ← append_assoc adds.0 now after, adds.1) (next_held is.0 held left piece after whole is.1 next),
  adds_written t₀ t₁ t₂ w name is.0 adds.0 n is.2 adds.2,
)

-- what is held last is refused
pub last_refused : (t₀ t₁ t₂ : Option Contents) (w : Option (List ℕ)) (name whole held left : List ℕ) → w ≡ Some name → IsWriting name whole held left t₀ t₁
    → KeepsPrefix w held t₁ t₂ → WritesPrefix name whole t₀ t₂
last_refused t₀ t₁ t₂ w name whole held left n is keeps = keeps_prefix t₀ t₁ t₂ w name is.0 held left whole n is.1 is.2 keeps

-- all of it is written
pub last_written : (t₀ t₁ t₂ : Option Contents) (w : Option (List ℕ)) (name whole held left : List ℕ) → w ≡ Some name → IsWriting name whole held left t₀ t₁ → left ≡ []
    → AddsAny w held t₁ t₂ → Steps (λ m. insert m name whole) t₀ t₂
last_written t₀ t₁ t₂ w name whole held left n is none adds =
    let end : is.0 ++ held ≡ whole = ap (λ h. is.0 ++ h) (sym (append-nil held)) ∙ ap (λ l. is.0 ++ (held ++ l)) (sym none) ∙ is.1 in
    subst (λ d. Steps (λ m. insert m name d) t₀ t₂) end (adds_written t₀ t₁ t₂ w name is.0 held n is.2 adds)

-- ---- two files

-- the CL file was cut short
pub cl_cut : (cl tape : List ℕ) (o : Output) (before after : Option Contents) → WritesPrefix cl o.cl before after → WritesFront cl tape o before after
cl_cut cl tape o None after w = tt
cl_cut cl tape o (Some m) after (inl same) = rw same (inl refl)
cl_cut cl tape o (Some m) after (inr front) = rw front.2 (inr (inl (front.0, front.1, refl)))

tape_cut_at : (cl tape : List ℕ) (o : Output) (m : Contents) (after : Option Contents) → WritesPrefix tape o.tape (Some (insert m cl o.cl)) after → WritesFront cl tape o (Some m) after
tape_cut_at cl tape o m after (inl same) = rw same (inr (inl (length o.cl, omega arith, ap (insert m cl) (sym (take-length o.cl)))))
tape_cut_at cl tape o m after (inr front) = rw front.2 (inr (inr (front.0, front.1, refl)))

-- the CL file was written, and the tape cut short
pub tape_cut : (cl tape : List ℕ) (o : Output) (before middle after : Option Contents) → Steps (λ m. insert m cl o.cl) before middle → WritesPrefix tape o.tape middle after
    → WritesFront cl tape o before after
tape_cut cl tape o None middle after s w = tt
tape_cut cl tape o (Some m) middle after s w = tape_cut_at cl tape o m after (subst (λ t. WritesPrefix tape o.tape t after) s w)

-- both were written
pub both_whole : (cl tape : List ℕ) (o : Output) (before middle after : Option Contents) → Steps (λ m. insert m cl o.cl) before middle → Steps (λ m. insert m tape o.tape) middle after
    → Steps (with_output cl tape o) before after
both_whole cl tape o None middle after s t = tt
both_whole cl tape o (Some m) middle after s t = subst (λ q. Steps (λ m. insert m tape o.tape) q after) s t
