-- Files that are read one after the other.
use Rattle.std.proofs.Common.{◌≡◌, inl, inr, ℕ, ◌≤◌, List, [], ◌∷◌, ◌++◌, Option, Some, None, ◌∙◌, refl, subst, arith}
use Rattle.apt_shelf.specs.Told.{Contents, Rose, Lacks}
use Rattle.apt_shelf.specs.Files.{IsLongerAt}
use Rattle.apt_shelf.specs.declared.files.ReadError.{ReadError}
use Rattle.apt_shelf.specs.declared.files.ReadError.TheVariants as errors
use Rattle.apt_report.specs.declared.status.Status.{Status}
use Rattle.apt_core.specs.Inputs.{Files, AreRead, Input, Reads, ReadsAll, IsUnread, IsFirstUnread, IsStopped, IsToldFor}

pub read_on : (before middle after : Files) → AreRead before middle → AreRead middle after → AreRead before after
read_on before middle after first second = record {
  files = second.files ∙ first.files;
  writing = second.writing ∙ first.writing;
  unfailed = second.unfailed ∙ first.unfailed;
  later = omega (arith, first.later, second.later);
}

pub reads_next : (before middle : Files) (x : Input) (text : List ℕ) (xs : List Input) (texts : List (List ℕ)) → AreRead before middle → Reads before.told x text
    → ReadsAll middle.told xs texts → ReadsAll before.told (x ∷ xs) (text ∷ texts)
reads_next before middle x text xs texts read first reads = (first, subst (λ t. ReadsAll t xs texts) read.files reads)

-- ---- counts that rose in a later part

rose_from : (before middle now : ℕ) → before ≤ middle → Rose middle now → Rose before now
rose_from before middle now h rose = omega (arith, h, rose)

lacks_from : (told : Option Contents) (name : List ℕ) (before middle now : ℕ) → before ≤ middle → Lacks told name middle now → Lacks told name before now
lacks_from None name before middle now h lacks = rose_from before middle now h lacks
lacks_from (Some m) name before middle now h lacks = lacks

unread_from : (told : Option Contents) (x : Input) (before middle now : ℕ) (answer : Status) → before ≤ middle → IsUnread told x middle now answer → IsUnread told x before now answer
unread_from told x before middle now answer h (inl missing) = inl (missing.0, lacks_from told x.name before middle now h missing.1)
unread_from told x before middle now answer h (inr long) = inr long

first_from : (told : Option Contents) (xs : List Input) (before middle now : ℕ) (answer : Status) → before ≤ middle → IsFirstUnread told xs middle now answer
    → IsFirstUnread told xs before now answer
first_from told [] before middle now answer h is = is
first_from told (x ∷ xs) before middle now answer h (inl unread) = inl (unread_from told x before middle now answer h unread)
first_from told (x ∷ xs) before middle now answer h (inr behind) = inr (behind.0, behind.1, first_from told xs before middle now answer h behind.2)

-- ---- where a work stops

-- at the first file, whichever follow
pub stopped_first : (x : Input) (more : List Input) (before after : Files) (answer : Status) → IsStopped (x ∷ []) before after answer → IsStopped (x ∷ more) before after answer
stopped_first x more before after answer (inl (inl unread)) = inl (inl unread)
stopped_first x more before after answer (inl (inr behind)) = absurd behind.2
stopped_first x more before after answer (inr short) = inr short

-- behind the first file
pub stopped_next : (before middle after : Files) (x : Input) (text : List ℕ) (xs : List Input) (answer : Status) → AreRead before middle → Reads before.told x text
    → IsStopped xs middle after answer → IsStopped (x ∷ xs) before after answer
stopped_next before middle after x text xs answer read reads (inl first) =
    inl (inr (
      text,
      reads,
      first_from before.told xs before.read_faults middle.read_faults after.read_faults answer read.later
          (subst (λ t. IsFirstUnread t xs middle.read_faults after.read_faults answer) read.files first),
    ))
stopped_next before middle after x text xs answer read reads (inr (inl fault)) =
    inr (inl (fault.0, rose_from before.read_faults middle.read_faults after.read_faults read.later fault.1))
stopped_next before middle after x text xs answer read reads (inr (inr short)) = inr (inr short)

-- ---- files behind others

first_front : (told : Option Contents) (xs ys : List Input) (before now : ℕ) (answer : Status) → IsFirstUnread told xs before now answer → IsFirstUnread told (xs ++ ys) before now answer
first_front told [] ys before now answer is = absurd is
first_front told (x ∷ xs) ys before now answer (inl unread) = inl unread
first_front told (x ∷ xs) ys before now answer (inr behind) = inr (behind.0, behind.1, first_front told xs ys before now answer behind.2)

first_behind : (told : Option Contents) (xs ys : List Input) (texts : List (List ℕ)) (before now : ℕ) (answer : Status) → ReadsAll told xs texts → IsFirstUnread told ys before now answer
    → IsFirstUnread told (xs ++ ys) before now answer
first_behind told [] ys texts before now answer reads first = first
first_behind told (x ∷ xs) ys [] before now answer reads first = absurd reads
first_behind told (x ∷ xs) ys (text ∷ texts) before now answer reads first = inr (text, reads.0, first_behind told xs ys texts before now answer reads.1 first)

pub reads_both : (told : Option Contents) (xs ys : List Input) (texts more : List (List ℕ)) → ReadsAll told xs texts → ReadsAll told ys more → ReadsAll told (xs ++ ys) (texts ++ more)
reads_both told [] ys [] more reads others = others
reads_both told [] ys (text ∷ texts) more reads others = absurd reads
reads_both told (x ∷ xs) ys [] more reads others = absurd reads
reads_both told (x ∷ xs) ys (text ∷ texts) more reads others = (reads.0, reads_both told xs ys texts more reads.1 others)

-- among the first files, whichever follow
pub stopped_front : (xs ys : List Input) (before after : Files) (answer : Status) → IsStopped xs before after answer → IsStopped (xs ++ ys) before after answer
stopped_front xs ys before after answer (inl first) = inl (first_front before.told xs ys before.read_faults after.read_faults answer first)
stopped_front xs ys before after answer (inr short) = inr short

-- behind files that were read
pub stopped_behind : (before middle after : Files) (xs ys : List Input) (texts : List (List ℕ)) (answer : Status) → AreRead before middle → ReadsAll before.told xs texts
    → IsStopped ys middle after answer → IsStopped (xs ++ ys) before after answer
stopped_behind before middle after xs ys texts answer read reads (inl first) =
    inl (first_behind before.told xs ys texts before.read_faults after.read_faults answer reads
    (first_from before.told ys before.read_faults middle.read_faults after.read_faults answer read.later
    (subst (λ t. IsFirstUnread t ys middle.read_faults after.read_faults answer) read.files first)))
stopped_behind before middle after xs ys texts answer read reads (inr (inl fault)) =
    inr (inl (fault.0, rose_from before.read_faults middle.read_faults after.read_faults read.later fault.1))
stopped_behind before middle after xs ys texts answer read reads (inr (inr short)) = inr (inr short)

-- at a file that can't be read, by its error
pub stopped_by : (x : Input) (before after : Files) (error : ReadError) (answer : Status) → IsToldFor x.name error answer
    → (error ≡ errors.Missing → Lacks before.told x.name before.read_faults after.read_faults) → (error ≡ errors.Fault → Rose before.read_faults after.read_faults)
    → (error ≡ errors.TooLong → IsLongerAt before.told x.name x.limit) → IsStopped (x ∷ []) before after answer
stopped_by x before after errors.Missing answer (inl told) missing fault long = inl (inl (inl (told, missing refl)))
stopped_by x before after errors.Missing answer (inr short) missing fault long = inr (inr short)
stopped_by x before after errors.Fault answer told missing fault long = inr (inl (told, fault refl))
stopped_by x before after errors.TooLong answer (inl told) missing fault long = inl (inl (inr (told, long refl)))
stopped_by x before after errors.TooLong answer (inr short) missing fault long = inr (inr short)
stopped_by x before after errors.NoMemory answer told missing fault long = inr (inr told)
