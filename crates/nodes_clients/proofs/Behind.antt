-- What comes of the answer of a client's call by itself, and the line that tells the answer.
use Rattle.std.proofs.Common.{◌≡◌, ℕ, ◌≤◌, List, ◌++◌, length, Option, Some, None, Result, Ok, Err, refl, sym, ap, subst, ◌∙◌, arith}
use Rattle.std.specs.Option.{option_map}
use Rattle.ior_refs.specs.declared.key.ObjectKey.{ObjectKey}
use Rattle.ots_world.specs.declared.fault.WorldFault.{WorldFault}
use Rattle.ots_world.specs.declared.fault.WorldFault.TheVariants as faults
use Rattle.coordinator.specs.declared.event.Act.{Act}
use Rattle.coordinator.specs.declared.node.NodeFault.{NodeFault}
use Rattle.coordinator.specs.declared.said.Said.{Said}
use Rattle.coordinator.specs.declared.said.Said.TheVariants as said
use Rattle.coordinator.specs.declared.said.StepAnswer.{StepAnswer}
use Rattle.nodes_world.specs.Clients.{answered_with, calls, created, said_in}
use Rattle.nodes_world.specs.Happenings.{Done, ◌▹◌, nothing, tells}
use Rattle.nodes_world.specs.World.{World, next_message}
use Rattle.nodes_state.specs.Does.{BreaksOff, Does}
use Rattle.nodes_state.specs.Telling.{Tells}
use Rattle.nodes_state.proofs.Doing.{breaks_first, breaks_later, part_none, tells_part_then, tells_then}
use Rattle.nodes_clients.specs.Called.{HasMade, called, comes_of, made_by, made_in, made_lines}
use Rattle.nodes_clients.specs.declared.called.Made.{Made}
use Rattle.nodes_clients.proofs.Makes.{calls_is}

answered_is : (made : Made) (message : ℕ) (behind : Said → World → Done) (o : Option (Result StepAnswer NodeFault)) (w : World) → made.message ≡ message
    → made.said ≡ option_map said_in o → answered_with message behind o w ≡ comes_of behind made.said w ▹ tells (made_lines made)
answered_is made message behind o w number said =
    split o ∙ sym (ap (λ (x : Option Said). comes_of behind x w ▹ tells (made_lines (record { message = made.message; said = x }))) said
    ∙ ap (λ m. comes_of behind (option_map said_in o) w ▹ tells (made_lines (record { message = m; said = option_map said_in o }))) number)
  where
    split : (x : Option (Result StepAnswer NodeFault))
        → answered_with message behind x w ≡ comes_of behind (option_map said_in x) w ▹ tells (made_lines (record { message = message; said = option_map said_in x }))
    split (Some answer) = refl
    split None = refl

-- no message goes away in it
abbrev pub Keeps : (Said → World → Done) → Type 0
Keeps behind = (answer : Said) (w : World) → length w.messages ≤ length (behind answer w).world.messages

answered_grows : (message : ℕ) (behind : Said → World → Done) → Keeps behind → (o : Option (Result StepAnswer NodeFault)) (w : World)
    → length w.messages ≤ length (answered_with message behind o w).world.messages
answered_grows message behind keeps (Some answer) w = keeps (said_in answer) w
answered_grows message behind keeps None w = omega arith

module _ (to : ObjectKey) (act : Act) (behind : Said → World → Done) (w : World) where
  whole : (v : World) (before after : List ℕ) (result : Result (Unit {0}) WorldFault)
      → Does ((called to act w).done ▹ answered_with (next_message w) behind (called to act w).answer) v before after result
      → Does (calls to act behind w) v before after result
  whole v before after result d = subst (λ (x : Done). Does x v before after result) (sym (calls_is to act behind w)) d

  pub not_made : Keeps behind → (v : World) (before after : List ℕ) (result : Result (Unit {0}) WorldFault) (fault : WorldFault) → result ≡ Err fault
      → BreaksOff (called to act w).done fault before after → Does (calls to act behind w) v before after result
  not_made keeps v before after result fault e b =
      subst (λ (r : Result (Unit {0}) WorldFault). Does (calls to act behind w) v before after r) (sym e)
      (whole v before after (Err fault)
      (breaks_first (called to act w).done (λ u. answered_with (next_message w) behind (called to act w).answer u) fault before after
      (λ u. answered_grows (next_message w) behind keeps (called to act w).answer u) b))

  module _ (made : Made) (u : World) (before mid : List ℕ) (h : HasMade (next_message w) (called to act w) u before mid made) where
    abbrev rest : World → Done
    rest x = comes_of behind made.said x ▹ tells (made_lines made)

    abbrev total : Done
    total = (called to act w).done ▹ rest

    with_rest : (v : World) (after : List ℕ) (result : Result (Unit {0}) WorldFault) → Does total v before after result
        → Does (calls to act behind w) v before after result
    with_rest v after result d =
        whole v before after result
        (subst (λ (x : Done). Does (record { world = x.world; lines = (called to act w).done.lines ++ x.lines }) v before after result)
        (sym (answered_is made (next_message w) behind (called to act w).answer (called to act w).done.world h.message h.said)) d)

    pub behind_fails : (v : World) (after : List ℕ) (result : Result (Unit {0}) WorldFault) (fault : WorldFault) → result ≡ Err fault
        → BreaksOff (comes_of behind made.said u) fault mid after → Does (calls to act behind w) v before after result
    behind_fails v after result fault e b =
        subst (λ (r : Result (Unit {0}) WorldFault). Does (calls to act behind w) v before after r) (sym e)
        (with_rest v after (Err fault)
        (breaks_later (called to act w).done rest fault before mid after h.done.1
        (breaks_first (comes_of behind made.said (called to act w).done.world) (λ x. tells (made_lines made) x) fault mid after (λ x. omega arith)
        (subst (λ (x : World). BreaksOff (comes_of behind made.said x) fault mid after) h.done.0 b))))

    pub line_fails : (v : World) (end after : List ℕ) (result : Result (Unit {0}) WorldFault) (fault : WorldFault) → result ≡ Err fault → fault ≡ faults.Memory
        → Does (comes_of behind made.said u) v mid end (Ok tt) → after ≡ end → Does (calls to act behind w) v before after result
    line_fails v end after result fault e is d same =
        let there : Does (comes_of behind made.said (called to act w).done.world) v mid end (Ok tt)
        = subst (λ (x : World). Does (comes_of behind made.said x) v mid end (Ok tt)) h.done.0 d in
        subst (λ (r : Result (Unit {0}) WorldFault). Does (calls to act behind w) v before after r) (sym (e ∙ ap Err is))
        (with_rest v after (Err faults.Memory)
        (tells_part_then (called to act w).done.lines (rest (called to act w).done.world).lines before mid after h.done.1
        (tells_part_then (comes_of behind made.said (called to act w).done.world).lines (made_lines made) mid end after there.1
        (part_none (made_lines made) end after same))))

    pub behind_ends : (v : World) (end after : List ℕ) → Does (comes_of behind made.said u) v mid end (Ok tt) → Tells (made_lines made) end after
        → Does (calls to act behind w) v before after (Ok tt)
    behind_ends v end after d t =
        let there : Does (comes_of behind made.said (called to act w).done.world) v mid end (Ok tt)
        = subst (λ (x : World). Does (comes_of behind made.said x) v mid end (Ok tt)) h.done.0 d in
        with_rest v after (Ok tt) (
          there.0,
          tells_then (called to act w).done.lines (rest (called to act w).done.world).lines before mid after h.done.1
              (tells_then (comes_of behind made.said (called to act w).done.world).lines (made_lines made) mid end after there.1 t),
        )

-- ---- the making of a subtransaction

nothing_keeps : (w : World) → length w.messages ≤ length (nothing w).world.messages
nothing_keeps w = omega arith

pub created_keeps : (parent : ObjectKey) (name : List ℕ) → Keeps (created parent name)
created_keeps parent name answer w = by_answer answer
  where
    by_answer : (a : Said) → length w.messages ≤ length (created parent name a w).world.messages
    by_answer (said.Made branch) = omega arith
    by_answer _ = nothing_keeps w

pub made_one : (parent : ObjectKey) (name : List ℕ) (o : Option Said) (branch : ℕ) (w : World) → made_in o ≡ Some branch
    → comes_of (created parent name) o w ≡ created parent name (said.Made branch) w
made_one parent name None branch w is = absurd cc
made_one parent name (Some answer) branch w is = by_answer answer is
  where
    by_answer : (a : Said) → made_by a ≡ Some branch → created parent name a w ≡ created parent name (said.Made branch) w
    by_answer (said.Made x) is = let e : x ≡ branch = cc in ap (λ y. created parent name (said.Made y) w) e
    by_answer _ is = absurd cc

pub made_none : (parent : ObjectKey) (name : List ℕ) (o : Option Said) (w : World) → made_in o ≡ None
    → comes_of (created parent name) o w ≡ nothing w
made_none parent name None w is = refl
made_none parent name (Some answer) w is = by_answer answer is
  where
    by_answer : (a : Said) → made_by a ≡ None → created parent name a w ≡ nothing w
    by_answer (said.Made x) is = absurd cc
    by_answer _ is = refl
