-- Of whom it is told what comes of a call, and the lines that tell it.
use Rattle.std.proofs.Common.{◌≡◌, ◌==◌, ℕ, List, [], ◌∷◌, ◌++◌, find, Option, Some, None, Result, Ok, Err, sym, ap, subst, ◌∙◌}
use Rattle.std.specs.Option.{option_map}
use Rattle.std.specs.Result.{IsErr}
use Rattle.ots_model.specs.declared.completion.CallNumber.{CallNumber}
use Rattle.ots_world.specs.declared.fault.WorldFault.{WorldFault}
use Rattle.ots_world.specs.declared.fault.WorldFault.TheVariants as faults
use Rattle.recovery_coord.specs.declared.held.Held.{Held}
use Rattle.coordinator.specs.Node.{Node}
use Rattle.coordinator.specs.NodeCalls.{RetoldAnswer}
use Rattle.coordinator.specs.declared.node.NodeFault.{NodeFault}
use Rattle.coordinator.specs.declared.said.StepAnswer.{StepAnswer}
use Rattle.nodes_world.specs.Happenings.{Cast, all_finished_lines, cast_of_key}
use Rattle.nodes_world.specs.Nodes.{Stepping, answer_told, cast_of_record, effects_told, key_of_record}
use Rattle.coordinator.specs.declared.effect.Effect.{Effect}
use Rattle.coordinator.specs.declared.said.Entry.{Entry}
use Rattle.coordinator.specs.declared.said.Finished.{Finished}
use Rattle.nodes_world.specs.Told.{Told}
use Rattle.nodes_world.specs.World.{World}
use Rattle.nodes_state.specs.Does.{BreaksOff}
use Rattle.nodes_lines.specs.Telling.{IsTold}
use Rattle.nodes_state.specs.Telling.{Tells, TellsPart, TellsSome}
use Rattle.nodes_state.proofs.Doing.{one_told, part_first, part_none, tells_part_then, tells_then}
use Rattle.nodes_state.proofs.Failing.{some_failed}
use Rattle.nodes_clients.specs.Carrying.{HasCarried}

-- ---- the record that an answer is for

pub recorded_is : (o : Option RetoldAnswer) (number : CallNumber) (n : Node) (records : List Held) (found : Option Held)
    → option_map (λ (a : RetoldAnswer). a.number) o ≡ Some number → records ≡ n.recovered
    → found ≡ find (λ (r : Held). r.place == number.generation) records
    → option_map (λ (r : Held). cast_of_key (key_of_record n.service r)) found ≡ cast_of_record o n
recorded_is None number n records found is same e = absurd cc
recorded_is (Some a) number n records found is same e =
    let numbers : number ≡ a.number = cc in
    ap (λ (x : Option Held). option_map (λ (r : Held). cast_of_key (key_of_record n.service r)) x)
    (e ∙ ap (λ (xs : List Held). find (λ (r : Held). r.place == number.generation) xs) same
    ∙ ap (λ (m : CallNumber). find (λ (r : Held). r.place == m.generation) n.recovered) numbers)

-- ---- lines, one part behind another

pub some_then : {E : Type 0} (some more : List Told) (before mid after : List ℕ) (result : Result (Unit {0}) E) → Tells some before mid
    → TellsSome more mid after result → TellsSome (some ++ more) before after result
some_then some more before mid after (Ok u) t s = tells_then some more before mid after t s
some_then some more before mid after (Err fault) t s = tells_part_then some more before mid after t s

pub some_first : {E : Type 0} (some more : List Told) (before after : List ℕ) (result : Result (Unit {0}) E) (fault : E) → result ≡ Err fault
    → TellsPart some before after → TellsSome (some ++ more) before after result
some_first some more before after result fault e p =
    subst (λ r. TellsSome (some ++ more) before after r) (sym e) (part_first some more before after p)

pub one_then : {E : Type 0} (some : List Told) (line : Told) (before mid after : List ℕ) (result : Result (Unit {0}) E) → Tells some before mid
    → IsTold result line mid after → TellsSome (some ++ line ∷ []) before after result
one_then some line before mid after (Ok u) t told = tells_then some (line ∷ []) before mid after t (one_told line mid after told)
one_then some line before mid after (Err fault) t told = tells_part_then some (line ∷ []) before mid after t (part_none (line ∷ []) mid after told)

-- ---- what was carried

abbrev Answer : Type 0
Answer = Result (Option (Result StepAnswer NodeFault)) WorldFault

pub carry_fails : (s : Stepping) (v : World) (before after : List ℕ) (result : Answer) (fault : WorldFault) → result ≡ Err fault
    → BreaksOff s.done fault before after → HasCarried s v before after result
carry_fails s v before after result fault e b = subst (λ (r : Answer). HasCarried s v before after r) (sym e) b

pub carry_starves : (s : Stepping) (v : World) (before after : List ℕ) (result : Answer) (fault : WorldFault) → result ≡ Err fault → fault ≡ faults.Memory
    → TellsPart s.done.lines before after → HasCarried s v before after result
carry_starves s v before after result fault e is p =
    subst (λ (r : Answer). HasCarried s v before after r) (sym (e ∙ ap Err is)) p

-- ---- the answer of a call

pub answer_fails : {E : Type 0} (w : World) (c : Option Cast) (entries : List Entry) (answer : Result StepAnswer NodeFault) (a : StepAnswer) (happened : List Effect)
    (before after : List ℕ) (result : Result (Unit {0}) E) → answer ≡ Ok a → happened ≡ a.effects → IsErr result
    → TellsPart (effects_told w c happened) before after → TellsSome (answer_told w c entries answer) before after result
answer_fails {E} w c entries answer a happened before after result is same failed p =
    subst (λ (x : Result StepAnswer NodeFault). TellsSome (answer_told w c entries x) before after result) (sym is)
    (some_failed (effects_told w c a.effects ++ all_finished_lines entries a.finished) before after result failed
    (part_first (effects_told w c a.effects) (all_finished_lines entries a.finished) before after
    (subst (λ es. TellsPart (effects_told w c es) before after) same p)))

pub answer_goes_on : {E : Type 0} (w : World) (c : Option Cast) (entries known : List Entry) (answer : Result StepAnswer NodeFault) (a : StepAnswer)
    (happened : List Effect) (finished : List Finished) (before mid after : List ℕ) (result : Result (Unit {0}) E) → answer ≡ Ok a → happened ≡ a.effects
    → finished ≡ a.finished → known ≡ entries → Tells (effects_told w c happened) before mid → TellsSome (all_finished_lines known finished) mid after result
    → TellsSome (answer_told w c entries answer) before after result
answer_goes_on {E} w c entries known answer a happened finished before mid after result is same ended told t s =
    subst (λ (x : Result StepAnswer NodeFault). TellsSome (answer_told w c entries x) before after result) (sym is)
    (some_then (effects_told w c a.effects) (all_finished_lines entries a.finished) before mid after result
    (subst (λ es. Tells (effects_told w c es) before mid) same t)
    (subst (λ es. TellsSome (all_finished_lines es a.finished) mid after result) told
    (subst (λ fs. TellsSome (all_finished_lines known fs) mid after result) ended s)))

pub node_same : (m n : Node) (o : Option Node) → Some m ≡ o → o ≡ Some n → m ≡ n
node_same m n o here there = cc
