-- One thing that is done after another.
use Rattle.std.proofs.Common.{◌≡◌, ℕ, zero, suc, ◌+◌, ◌≤◌, List, [], ◌∷◌, ◌++◌, length, take, Option, Some, None, Result, Ok, Err, refl, sym, ap, subst, ◌∙◌, arith, append_assoc}
use Rattle.std.proofs.lemmas.List.{append-nil}
use Rattle.std.proofs.lemmas.Grind.{flat_map-append}
use Rattle.std.proofs.lemmas.List.Concat.{flat_map-cons}
use Rattle.ots_world.specs.declared.fault.WorldFault.{WorldFault}
use Rattle.ots_world.specs.declared.fault.WorldFault.TheVariants as faults
use Rattle.nodes_world.specs.Told.{Told, text, spelled}
use Rattle.nodes_world.specs.World.{World}
use Rattle.nodes_world.specs.Happenings.{Done, ◌▹◌, naming, nothing}
use Rattle.nodes_state.specs.Telling.{Tells, TellsOne, TellsPart}
use Rattle.nodes_lines.specs.Telling.{IsTold}
use Rattle.nodes_state.specs.Does.{BreaksOff, Does}

-- ---- lines

pub tells_then : (some more : List Told) (before mid after : List ℕ) → Tells some before mid → Tells more mid after → Tells (some ++ more) before after
tells_then some more before mid after a b =
    b ∙ ap (λ m. m ++ text more) a ∙ append_assoc before (text some) (text more) ∙ ap (λ t. before ++ t) (sym (flat_map-append spelled some more))

take_whole : (some more : List Told) (k : ℕ) → take (length some + k) (some ++ more) ≡ some ++ take k more
take_whole [] more k = let e : 0 + k ≡ k = omega arith in ap (λ n. take n more) e
take_whole (x ∷ some) more k =
    let e : suc (length some) + k ≡ suc (length some + k) = omega arith in
    ap (λ n. take n (x ∷ (some ++ more))) e ∙ ap (λ xs. x ∷ xs) (take_whole some more k)

pub tells_part_then : (some more : List Told) (before mid after : List ℕ) → Tells some before mid → TellsPart more mid after → TellsPart (some ++ more) before after
tells_part_then some more before mid after a b =
    (length some + b.0, tells_then some (take b.0 more) before mid after a b.1 ∙ ap (λ t. before ++ text t) (sym (take_whole some more b.0)))

pub part_of_first : (some more : List Told) (k : ℕ) → (j : ℕ) × (take j (some ++ more) ≡ take k some)
part_of_first some more zero = (0, refl)
part_of_first [] more (suc k) = (0, refl)
part_of_first (x ∷ some) more (suc k) = let r = part_of_first some more k in (suc r.0, ap (λ xs. x ∷ xs) r.1)

pub part_first : (some more : List Told) (before after : List ℕ) → TellsPart some before after → TellsPart (some ++ more) before after
part_first some more before after p =
    let r = part_of_first some more p.0 in
    (r.0, p.1 ∙ ap (λ t. before ++ text t) (sym r.1))

pub tells_none : (before : List ℕ) → Tells [] before before
tells_none before = sym (append-nil before)

pub one_told : (line : Told) (before after : List ℕ) → after ≡ before ++ spelled line → Tells (line ∷ []) before after
one_told line before after e = e ∙ ap (λ t. before ++ t) (sym (flat_map-cons spelled line [] ∙ append-nil (spelled line)))

-- a line was told by a call of its own, or none is to be told
pub line_told : {E : Type 0} (result : Result (Unit {0}) E) (line : Told) (before after : List ℕ) → IsTold result line before after
    → TellsOne (line ∷ []) before after result
line_told (Ok u) line before after t = one_told line before after t
line_told (Err fault) line before after t = t

pub none_told : (before after : List ℕ) → after ≡ before → Tells [] before after
none_told before after e = e ∙ tells_none before

-- what was told of lines that are one: all, or nothing
pub part_none : (some : List Told) (before after : List ℕ) → after ≡ before → TellsPart some before after
part_none some before after e = (0, e ∙ sym (append-nil before))

take_long : (k : ℕ) (some : List Told) → take (k + length some) some ≡ some
take_long zero [] = refl
take_long (suc k) [] = let e : suc k + 0 ≡ suc k = omega arith in ap (λ n. take n []) e
take_long k (x ∷ some) =
    let e : k + suc (length some) ≡ suc (k + length some) = omega arith in
    ap (λ n. take n (x ∷ some)) e ∙ ap (λ xs. x ∷ xs) (take_long k some)

pub part_all : (some : List Told) (before after : List ℕ) → Tells some before after → TellsPart some before after
part_all some before after t =
    let e : 0 + length some ≡ length some = omega arith in
    (length some, t ∙ ap (λ xs. before ++ text xs) (sym (ap (λ n. take n some) (sym e) ∙ take_long 0 some)))

-- ---- what is done

-- no message goes away in it
abbrev pub Grows : (World → Done) → Type 0
Grows next = (w : World) → length w.messages ≤ length (next w).world.messages

pub breaks_first : (first : Done) (next : World → Done) (fault : WorldFault) (before after : List ℕ) → Grows next
    → BreaksOff first fault before after → BreaksOff (first ▹ next) fault before after
breaks_first first next faults.Memory before after grows b = part_first first.lines (next first.world).lines before after b
breaks_first first next (faults.Limit n) before after grows b =
    let more = grows first.world in
    let over = b.0.1 in
    ((b.0.0, omega arith), part_first first.lines (next first.world).lines before after b.1)
breaks_first first next faults.Names before after grows b = absurd b

pub breaks_later : (first : Done) (next : World → Done) (fault : WorldFault) (before mid after : List ℕ) → Tells first.lines before mid
    → BreaksOff (next first.world) fault mid after → BreaksOff (first ▹ next) fault before after
breaks_later first next faults.Memory before mid after t b = tells_part_then first.lines (next first.world).lines before mid after t b
breaks_later first next (faults.Limit n) before mid after t b =
    (b.0, tells_part_then first.lines (next first.world).lines before mid after t b.1)
breaks_later first next faults.Names before mid after t b = absurd b

-- one thing was done, and then the next
pub does_then : (first : Done) (next : World → Done) (v w : World) (before mid after : List ℕ) (result : Result (Unit {0}) WorldFault)
    → v ≡ first.world → Tells first.lines before mid → Does (next v) w mid after result → Does (first ▹ next) w before after result
does_then first next v w before mid after (Ok u) e t d = (
  d.0 ∙ ap (λ (x : World). (next x).world) e,
  tells_then first.lines (next first.world).lines before mid after t (d.1 ∙ ap (λ (x : World). mid ++ text (next x).lines) e),
)
does_then first next v w before mid after (Err fault) e t d =
    breaks_later first next fault before mid after t (subst (λ (x : World). BreaksOff (next x) fault mid after) e d)

pub does_nothing : (w : World) (lines : List ℕ) → Does (nothing w) w lines lines (Ok tt)
does_nothing w lines = (refl, tells_none lines)

-- ---- a line that speaks of something by its name

pub naming_told : {E : Type 0} (say : List ℕ → Told) (o : Option (List ℕ)) (name before after : List ℕ) (result : Result (Unit {0}) E) → o ≡ Some name
    → IsTold result (say name) before after → TellsOne (naming say o) before after result
naming_told say o name before after result e t =
    subst (λ (x : Option (List ℕ)). TellsOne (naming say x) before after result) (sym e) (line_told result (say name) before after t)

pub naming_none : (say : List ℕ → Told) (o : Option (List ℕ)) (before after : List ℕ) → o ≡ None → after ≡ before → Tells (naming say o) before after
naming_none say o before after e t =
    subst (λ (x : Option (List ℕ)). Tells (naming say x) before after) (sym e) (none_told before after t)
