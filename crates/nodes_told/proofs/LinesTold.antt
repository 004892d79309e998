-- Each line whose names are names can be read, and where it finds them.
use Rattle.std.proofs.Common.{◌≡◌, inl, inr, ℕ, Bool, List, [], ◌∷◌, Option, Some, None, refl}
use Rattle.std.specs.Prelude.{◌==◌, find, filter_map, codes}
use Rattle.std.specs.List.{AllByRecursion, cons_option}
use Rattle.std.specs.Option.{option_map, option_and_then}
use Rattle.ior_refs.specs.declared.key.ObjectKey.{ObjectKey}
use Rattle.ots_model.specs.Line.{parts}
use Rattle.ots_model.specs.Name.{IsName}
use Rattle.ots_model.specs.declared.completion.Ground.{Ground}
use Rattle.ots_model.specs.declared.completion.Ground.TheVariants.{Record}
use Rattle.ots_model.specs.declared.completion.Vote.{Vote}
use Rattle.ots_model.specs.declared.completion.Word.{Word as Phase}
use Rattle.ots_model.specs.declared.completion.Word.TheVariants as phase_words
use Rattle.ots_model.specs.declared.line.ResourceState.{ResourceState}
use Rattle.ots_model.specs.declared.completion.Reason.TheVariants as phase_reasons
use Rattle.ots_model.specs.declared.line.Line.TheVariants as lines
use Rattle.ots_model.specs.Numbered.{Outcome}
use Rattle.ots_model.specs.declared.completion.Outcome.TheVariants as outcomes
use Rattle.ots_model.specs.declared.tree.Reason.{Reason}
use Rattle.ots_model.specs.declared.tree.Reason.TheVariants as reasons
use Rattle.ots_model.specs.declared.tree.Word.{Word}
use Rattle.ots_model.specs.declared.tree.Word.TheVariants as words
use Rattle.resource_votes.specs.declared.registration.Registration.{Registration}
use Rattle.coordinator.specs.declared.effect.Effect.{Effect}
use Rattle.coordinator.specs.declared.effect.Effect.TheVariants as effects
use Rattle.coordinator.specs.declared.said.Entry.{Entry}
use Rattle.coordinator.specs.declared.said.Finished.{Finished}
use Rattle.coordinator.specs.declared.event.Act.{Act}
use Rattle.coordinator.specs.declared.said.Said.{Said}
use Rattle.coordinator.specs.declared.said.Said.TheVariants as said
use Rattle.nodes_world.specs.declared.thing.Thing.{Thing}
use Rattle.nodes_world.specs.declared.thing.Thing.TheVariants as things
use Rattle.nodes_world.specs.Happenings.{Cast, all_effect_lines, all_finished_lines, answer_lines, branch_name, call_number, decided_lines, effect_lines, finished_lines, name_numbered, naming, outcome_lines, registered, rollback_lines, synchronized}
use Rattle.nodes_world.specs.Objects.{branch_of, same_transaction}
use Rattle.nodes_world.specs.Told.{Told, Known, Down, Aware, Called, Answered, Sent, Back, Dropped, RolledBack, RolledBackBy, Marked, Doubted, Refused, Journal, answer_part, operation_of, sent, words_of}
use Rattle.nodes_world.specs.World.{World, Seat, Server, OfNode, OfEnd, NamedKey, is_referred_to, referred, resource_in, resources, transaction_in, transaction_name, transactions}
use Rattle.nodes_told.specs.Reading.{HasWords, IsAnswer, IsNamed, IsOneOf, IsTold, bare_reasons, reasons_by, refused_words, words_beside}
use Rattle.nodes_told.proofs.FamilySays.{FinishedReads, IfSo, append_all, found_one}
use Rattle.nodes_told.proofs.NodeSays.{NodeReads}

-- ---- a world whose names are names, and whose nodes answer so that it can be read

abbrev pub EntryNamed : List ℕ × Thing → Type 0
EntryNamed entry = IsName entry.0

abbrev pub ServerReads : Server → Type 0
ServerReads (OfNode (Some n)) = NodeReads n
ServerReads (OfNode None) = Unit {0}
ServerReads (OfEnd up) = Unit {0}

pub record SeatReads (s : Seat) : Type 0 where
  pub name : IsName s.name
  pub server : ServerReads s.server

pub record WorldReads (w : World) : Type 0 where
  pub names : AllByRecursion EntryNamed w.names
  pub seats : AllByRecursion SeatReads w.seats

abbrev pub AllTold : List Told → Type 0
AllTold some = AllByRecursion IsTold some

-- ---- names that are found

abbrev KeyNamed : NamedKey → Type 0
KeyNamed r = IsName r.name

transaction_of : (name : List ℕ) (t : Thing) → IsName name → IfSo KeyNamed (transaction_in name t)
transaction_of name (things.Transaction key) is = is
transaction_of name (things.Seat place) is = tt
transaction_of name (things.Resource key) is = tt

resource_of : (name : List ℕ) (t : Thing) → IsName name → IfSo KeyNamed (resource_in name t)
resource_of name (things.Resource key) is = is
resource_of name (things.Seat place) is = tt
resource_of name (things.Transaction key) is = tt

kept_all : (f : List ℕ × Thing → Option NamedKey) (some : List (List ℕ × Thing))
    → ((entry : List ℕ × Thing) → EntryNamed entry → IfSo KeyNamed (f entry)) → AllByRecursion EntryNamed some → AllByRecursion KeyNamed (filter_map f some)
kept_all f [] each all = tt
kept_all f (entry ∷ some) each all = by (f entry) (each entry all.0) (kept_all f some each all.1)
  where
    by : (o : Option NamedKey) → IfSo KeyNamed o → AllByRecursion KeyNamed (filter_map f some) → AllByRecursion KeyNamed (cons_option o (filter_map f some))
    by (Some r) is more = (is, more)
    by None is more = more

name_in : (o : Option NamedKey) → IfSo KeyNamed o → IfSo IsName (option_map (λ (r : NamedKey). r.name) o)
name_in (Some r) is = is
name_in None is = tt

pub transaction_named : (w : World) (key : ObjectKey) → WorldReads w → IfSo IsName (transaction_name w key)
unfolding transaction_name
transaction_named w key reads =
    name_in (find (λ (t : NamedKey). same_transaction t.key key) (transactions w))
    (found_one KeyNamed (λ (t : NamedKey). same_transaction t.key key) (transactions w)
    (kept_all (λ (entry : List ℕ × Thing). transaction_in entry.0 entry.1) w.names (λ entry is. transaction_of entry.0 entry.1 is) reads.names))

referred_key : (w : World) (to : List ℕ) → WorldReads w → IfSo KeyNamed (referred w to)
unfolding referred
referred_key w to reads =
    found_one KeyNamed (is_referred_to w to) (resources w)
    (kept_all (λ (entry : List ℕ × Thing). resource_in entry.0 entry.1) w.names (λ entry is. resource_of entry.0 entry.1 is) reads.names)

pub referred_named : (w : World) (to : List ℕ) → WorldReads w → IfSo IsName (option_map (λ (r : NamedKey). r.name) (referred w to))
referred_named w to reads = name_in (referred w to) (referred_key w to reads)

pub referred_is : (w : World) (to : List ℕ) → WorldReads w → IfSo (λ (r : NamedKey). IsName r.name) (referred w to)
referred_is w to reads = referred_key w to reads

numbered_named : (w : World) (some : List Registration) (number : ℕ) → WorldReads w → IfSo IsName (name_numbered w some number)
numbered_named w some number reads = by (find (λ (r : Registration). r.index == number) some)
  where
    by : (o : Option Registration) → IfSo IsName (option_map (λ (r : NamedKey). r.name) (option_and_then (λ (r : Registration). referred w r.to) o))
    by (Some r) = referred_named w r.to reads
    by None = tt

-- ---- lines

pub up_told : (server : List ℕ) (life : ℕ) → IsName server → IsTold (Known (lines.Up server life))
unfolding words_of HasWords parts
up_told server life is = record { names = (tt, (is, (tt, tt))); words = tt }

pub top_told : (t n : List ℕ) → IsName t → IsName n → IsTold (Known (lines.Top t n))
unfolding words_of HasWords parts
top_told t n one other = record { names = (tt, (one, (other, tt))); words = tt }

pub sub_told : (t p : List ℕ) → IsName t → IsName p → IsTold (Known (lines.Sub t p))
unfolding words_of HasWords parts
sub_told t p one other = record { names = (tt, (one, (other, tt))); words = tt }

pub reg_told : (g t e : List ℕ) → IsName g → IsName t → IsName e → IsTold (Known (lines.Reg g t e))
unfolding words_of HasWords parts
reg_told g t e one other last = record { names = (tt, (one, (other, (last, tt)))); words = tt }

pub aware_told : (g t e : List ℕ) → IsName g → IsName t → IsName e → IsTold (Aware g t e)
unfolding words_of HasWords
aware_told g t e one other last = record { names = (tt, (one, (other, (last, tt)))); words = tt }

pub recv_told : (number : ℕ) → IsTold (Known (lines.Recv number))
unfolding words_of HasWords parts
recv_told number = record { names = (tt, (tt, tt)); words = tt }

pub state_told : (g : List ℕ) (s : ResourceState) → IsName g → IsTold (Known (lines.State g s))
unfolding words_of HasWords parts
state_told g s is = record { names = (tt, (is, (tt, tt))); words = tt }

pub recorded_told : (t : List ℕ) → IsName t → IsTold (Known (lines.Decide t (outcomes.Commit Record)))
unfolding words_of HasWords parts
recorded_told t is = record { names = (tt, (is, (tt, (tt, tt)))); words = tt }

pub down_told : (server : List ℕ) → IsName server → IsTold (Down server)
unfolding words_of HasWords
down_told server is = record { names = (tt, (is, tt)); words = tt }

pub called_told : (message : ℕ) (act : Act) (operation t : List ℕ) → operation_of act ≡ Some operation → IsName t → IsTold (Called message operation t)
unfolding words_of HasWords
called_told message act operation t named is = record { names = (tt, (tt, (tt, (is, tt)))); words = (act, named) }

answer_part_named : (answer : Said) → IsNamed (answer_part answer)
answer_part_named (said.Number n) = tt
answer_part_named _ = tt

pub answered_told : (message : ℕ) (answer : Said) → IsAnswer answer → IsTold (Answered message answer)
unfolding words_of HasWords
answered_told message answer is = record { names = (tt, (tt, (answer_part_named answer, tt))); words = is }

pub back_told : (message request : ℕ) (answer : Said) → IsAnswer answer → IsTold (Back message request answer)
unfolding words_of HasWords
back_told message request answer is = record { names = (tt, (tt, (tt, (answer_part_named answer, tt)))); words = is }

pub dropped_told : (message : ℕ) → IsTold (Dropped message)
unfolding words_of HasWords
dropped_told message = record { names = (tt, (tt, tt)); words = tt }

pub refused_told : (word : List ℕ) (answer : Said) → IsOneOf refused_words word → IsAnswer answer → IsTold (Refused word answer)
unfolding words_of HasWords
refused_told word answer one is = record { names = (tt, (tt, (answer_part_named answer, tt))); words = (one, is) }

pub journal_told : (server octets : List ℕ) → IsName server → IsTold (Journal server octets)
unfolding words_of HasWords
journal_told server octets is = record { names = (tt, (is, (tt, tt))); words = tt }

-- a word goes out
send_told : (message : ℕ) (word : Phase) (g : List ℕ) → IsName g → IsTold (Known (lines.Send message word g))
unfolding words_of HasWords parts
send_told message word g is = record { names = (tt, (tt, (tt, (is, tt)))); words = tt }

beside_told : (message : ℕ) (word g : List ℕ) → IsOneOf words_beside word → IsName g → IsTold (Sent message word g)
unfolding words_of HasWords
beside_told message word g one is = record { names = (tt, (tt, (tt, (is, tt)))); words = one }

pub sent_told : (message : ℕ) (word : Word) (g : List ℕ) → IsName g → IsTold (sent message word g)
sent_told message (words.Phase phase_words.Prepare) g is = send_told message phase_words.Prepare g is
sent_told message (words.Phase phase_words.Commit) g is = send_told message phase_words.Commit g is
sent_told message (words.Phase phase_words.CommitOnePhase) g is = send_told message phase_words.CommitOnePhase g is
sent_told message (words.Phase phase_words.Rollback) g is = send_told message phase_words.Rollback g is
sent_told message words.Forget g is = beside_told message (codes "forget") g (inl refl) is
sent_told message words.BeforeCompletion g is = beside_told message (codes "before_completion") g (inr (inl refl)) is
sent_told message (words.AfterCompletion s) g is = beside_told message (codes "after_completion") g (inr (inr (inl refl))) is
sent_told message (words.CommitSub above) g is = beside_told message (codes "commit_subtransaction") g (inr (inr (inr (inl refl)))) is
sent_told message words.RollbackSub g is = beside_told message (codes "rollback_subtransaction") g (inr (inr (inr (inr (inl refl))))) is
sent_told message words.ReplayCompletion g is = beside_told message (codes "replay_completion") g (inr (inr (inr (inr (inr (inl refl)))))) is
sent_told message words.RegisterResource g is = beside_told message (codes "register_resource") g (inr (inr (inr (inr (inr (inr (inl refl))))))) is

-- ---- what happened to a family

pub naming_told : (say : List ℕ → Told) (o : Option (List ℕ)) → ((name : List ℕ) → IsName name → IsTold (say name)) → IfSo IsName o → AllTold (naming say o)
naming_told say (Some name) each is = (each name is, tt)
naming_told say None each is = tt

bare_told : (t reason : List ℕ) → IsOneOf bare_reasons reason → IsName t → AllTold (RolledBack t reason ∷ [])
unfolding words_of HasWords
bare_told t reason one is = (record { names = (tt, (is, (tt, (tt, tt)))); words = one }, tt)

by_told : (t reason : List ℕ) → IsOneOf reasons_by reason → IsName t → (s : List ℕ) → IsName s → IsTold (RolledBackBy t reason s)
unfolding words_of HasWords
by_told t reason one is s other = record { names = (tt, (is, (tt, (tt, (other, tt))))); words = one }

vote_told : (t g : List ℕ) → IsName t → IsName g → IsTold (Known (lines.Decide t (outcomes.Rollback (phase_reasons.Vote g))))
unfolding words_of HasWords parts
vote_told t g is other = record { names = (tt, (is, (tt, (tt, (other, tt))))); words = tt }

lost_told : (t g : List ℕ) → IsName t → IsName g → IsTold (Known (lines.Decide t (outcomes.Rollback (phase_reasons.PrepareLost g))))
unfolding words_of HasWords parts
lost_told t g is other = record { names = (tt, (is, (tt, (tt, (other, tt))))); words = tt }

starved_told : (t g : List ℕ) → IsName t → IsName g → IsTold (Known (lines.Decide t (outcomes.Rollback (phase_reasons.PrepareStarved g))))
unfolding words_of HasWords parts
starved_told t g is other = record { names = (tt, (is, (tt, (tt, (other, tt))))); words = tt }

fault_told : (t g : List ℕ) → IsName t → IsName g → IsTold (Known (lines.Decide t (outcomes.Rollback (phase_reasons.PrepareFault g))))
unfolding words_of HasWords parts
fault_told t g is other = record { names = (tt, (is, (tt, (tt, (other, tt))))); words = tt }

full_told : (t : List ℕ) (used need : ℕ) → IsName t → IsTold (Known (lines.Decide t (outcomes.Rollback (phase_reasons.JournalFull used need))))
unfolding words_of HasWords parts
full_told t used need is = record { names = (tt, (is, (tt, (tt, (tt, (tt, tt)))))); words = tt }

commit_told : (t : List ℕ) (basis : Ground) → IsName t → IsTold (Known (lines.Decide t (outcomes.Commit basis)))
unfolding words_of HasWords parts
commit_told t basis is = record { names = (tt, (is, (tt, (tt, tt)))); words = tt }

unknown_told : (t : List ℕ) → IsName t → IsTold (Known (lines.Decide t outcomes.Unknown))
unfolding words_of HasWords parts
unknown_told t is = record { names = (tt, (is, (tt, tt))); words = tt }

voted_told : (vote : Vote) (g : List ℕ) → IsName g → IsTold (Known (lines.Voted g vote))
unfolding words_of HasWords parts
voted_told vote g is = record { names = (tt, (is, (tt, tt))); words = tt }

ended_told : (committed : Bool) (t : List ℕ) → IsName t → IsTold (Known (lines.SubDone t committed))
unfolding words_of HasWords parts
ended_told committed t is = record { names = (tt, (is, (tt, tt))); words = tt }

done_told : (t : List ℕ) → IsName t → IsTold (Known (lines.Done t))
unfolding words_of HasWords parts
done_told t is = record { names = (tt, (is, tt)); words = tt }

marked_told : (t : List ℕ) → IsName t → IsTold (Marked t)
unfolding words_of HasWords
marked_told t is = record { names = (tt, (is, tt)); words = tt }

doubted_told : (t : List ℕ) → IsName t → IsTold (Doubted t)
unfolding words_of HasWords
doubted_told t is = record { names = (tt, (is, tt)); words = tt }

module _ (w : World) (reads : WorldReads w) (c : Cast) where
  registered_named : (g : ℕ) → IfSo IsName (registered w c g)
  registered_named g = numbered_named w c.registrations g reads

  rollback_told : (t : List ℕ) (reason : Reason) → IsName t → AllTold (rollback_lines w c t reason)
  rollback_told t reasons.Asked is = bare_told t (codes "Asked") (inl refl) is
  rollback_told t reasons.Marked is = bare_told t (codes "Marked") (inr (inl refl)) is
  rollback_told t reasons.Timeout is = bare_told t (codes "Timeout") (inr (inr (inl refl))) is
  rollback_told t (reasons.Phase (phase_reasons.Vote g)) is = naming_told _ (registered w c g) (λ object named. vote_told t object is named) (registered_named g)
  rollback_told t (reasons.Phase (phase_reasons.PrepareLost g)) is = naming_told _ (registered w c g) (λ object named. lost_told t object is named) (registered_named g)
  rollback_told t (reasons.Phase (phase_reasons.PrepareStarved g)) is = naming_told _ (registered w c g) (λ object named. starved_told t object is named) (registered_named g)
  rollback_told t (reasons.Phase (phase_reasons.PrepareFault g)) is = naming_told _ (registered w c g) (λ object named. fault_told t object is named) (registered_named g)
  rollback_told t (reasons.SyncLost s) is =
      naming_told (RolledBackBy t (codes "SyncLost")) (synchronized w c s) (by_told t (codes "SyncLost") (inl refl) is) (numbered_named w c.synchronizations s reads)
  rollback_told t (reasons.SyncStarved s) is =
      naming_told (RolledBackBy t (codes "SyncStarved")) (synchronized w c s) (by_told t (codes "SyncStarved") (inr (inl refl)) is) (numbered_named w c.synchronizations s reads)
  rollback_told t (reasons.Phase (phase_reasons.JournalFull used need)) is = (full_told t used need is, tt)
  rollback_told t reasons.NotStored is = bare_told t (codes "NotStored") (inr (inr (inr (inl refl)))) is
  rollback_told t reasons.Superior is = bare_told t (codes "Superior") (inr (inr (inr (inr (inl refl))))) is
  rollback_told t reasons.NotEnlisted is = bare_told t (codes "NotEnlisted") (inr (inr (inr (inr (inr (inl refl)))))) is

  outcome_told : (o : Outcome) (t : List ℕ) → IsName t → AllTold (outcome_lines w c o t)
  outcome_told (outcomes.Commit basis) t is = (commit_told t basis is, tt)
  outcome_told (outcomes.Rollback reason) t is = rollback_told t reason is
  outcome_told outcomes.Unknown t is = (unknown_told t is, tt)

  decided_told : (o : Outcome) (t : Option (List ℕ)) → IfSo IsName t → AllTold (decided_lines w c o t)
  decided_told o (Some t) is = outcome_told o t is
  decided_told o None is = tt

  branch_named : (b : ℕ) → IfSo IsName (branch_name w c b)
  branch_named b = transaction_named w (branch_of c.key b) reads

  effect_told : (e : Effect) → AllTold (effect_lines w c e)
  unfolding effect_lines
  effect_told (effects.Voted g vote) = naming_told _ (registered w c g) (voted_told vote) (registered_named g)
  effect_told (effects.Decided outcome) = decided_told outcome (branch_name w c 0) (branch_named 0)
  effect_told (effects.SubtransactionEnded b committed) = naming_told _ (branch_name w c b) (ended_told committed) (branch_named b)
  effect_told (effects.Marked b) = naming_told Marked (branch_name w c b) marked_told (branch_named b)
  effect_told effects.Doubted = naming_told Doubted (branch_name w c 0) doubted_told (branch_named 0)
  effect_told effects.Done = naming_told _ (branch_name w c 0) done_told (branch_named 0)

  pub effects_told : (some : List Effect) → AllTold (all_effect_lines w c some)
  effects_told [] = tt
  effects_told (e ∷ some) = append_all IsTold (effect_lines w c e) (all_effect_lines w c some) (effect_told e) (effects_told some)

-- ---- answers to clients

answers_told : (answer : Said) (message : Option ℕ) → IsAnswer answer → AllTold (answer_lines answer message)
answers_told answer (Some message) is = (answered_told message answer is, tt)
answers_told answer None is = tt

pub finished_told : (entries : List Entry) (some : List Finished) → AllByRecursion FinishedReads some → AllTold (all_finished_lines entries some)
finished_told entries [] all = tt
finished_told entries (a ∷ some) all =
    append_all IsTold (finished_lines entries a) (all_finished_lines entries some) (answers_told a.said (call_number entries a.position) all.0)
    (finished_told entries some all.1)
