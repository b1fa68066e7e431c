-- What comes of a call for which memory may run out: all but that is promised.
use Rattle.std.specs.Prelude.{◌≡◌, Option, Some, None, Result, Ok, Err}

-- what an error tells is so; one that tells nothing says that memory ran out
abbrev pub Tells : {F : Type 0} → (F → Type 0) → Option F → Type 0
Tells so (Some fault) = so fault
Tells so None = Unit {0}

-- what came is good, or what the error tells is so
abbrev pub Comes : {A E F : Type 0} → (E → Option F) → (A → Type 0) → (F → Type 0) → Result A E → Type 0
Comes told good so (Ok a) = good a
Comes told good so (Err e) = Tells so (told e)

-- the error tells the fault that is due, or that memory ran out
abbrev pub IsFault : {B E F : Type 0} → (E → Option F) → Result B F → E → Type 0
IsFault told due e = Tells (λ fault. due ≡ Err fault) (told e)

-- what came is what is due, as a view shows it, or memory ran out
abbrev pub IsDueAs : {A B E F : Type 0} → (A → B) → (E → Option F) → Result B F → Result A E → Type 0
IsDueAs view told due = Comes told (λ a. due ≡ Ok (view a)) (λ fault. due ≡ Err fault)

-- what came is what is due, or memory ran out
abbrev pub IsDue : {A E F : Type 0} → (E → Option F) → Result A F → Result A E → Type 0
IsDue told due = IsDueAs (λ a. a) told due
