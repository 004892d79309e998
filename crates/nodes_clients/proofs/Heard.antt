-- What is told of a family before its node crashes.
use Rattle.std.proofs.Common.{◌≡◌, ℕ, ◌+◌, Bool, true, false, nat_le, List, [], Option, Some, None, is_some, if◌then◌else◌, refl, sym, ap}
use Rattle.ior_refs.specs.declared.key.ObjectKey.{ObjectKey}
use Rattle.ots_model.specs.declared.completion.Stood.{Stood}
use Rattle.ots_outside.specs.Disk.{DiskState}
use Rattle.decision_journal.specs.Journal.{Found, front}
use Rattle.decision_journal.specs.State.{need, used}
use Rattle.decision_journal.specs.declared.record.JournalRecord.{JournalRecord}
use Rattle.coordinator.specs.Family.{Family}
use Rattle.coordinator.specs.Node.{Node, family_of}
use Rattle.coordinator.specs.NodeCalls.{family_for, retold_answer}
use Rattle.coordinator.specs.Step.{Wanted, Appends, Rereads, WritesDone}
use Rattle.coordinator.specs.declared.effect.Effect.{Effect}
use Rattle.coordinator.specs.declared.event.Event.{Event}
use Rattle.nodes_world.specs.Disks.{Stop, strikes}
use Rattle.nodes_world.specs.Happenings.{all_effect_lines, cast_of}
use Rattle.nodes_world.specs.Journals.{Answers, Stops, asks, asks_by, records_on}
use Rattle.nodes_world.specs.Limits.{area_limit}
use Rattle.nodes_world.specs.Nodes.{heard_lines}
use Rattle.nodes_world.specs.World.{World}
use Rattle.nodes_lives.specs.First.{heard_by}
use Rattle.nodes_state.specs.declared.casts.Roster.{Roster}
use Rattle.nodes_clients.specs.Answering.{AreNamesKept, AreTold}

-- ---- where no stop is to come, none strikes

by_room : (b : Bool) (p q : Option Stood) (d e : DiskState) (image : List ℕ) → (if b then Answers p d None else Answers q e None) ≡ Stops image → ⊥
by_room true p q d e image is = absurd cc
by_room false p q d e image is = absurd cc

none_strikes : (o : Option Wanted) (rs : Option (List JournalRecord)) (service : ℕ) (found : Found) (disk : DiskState) (image : List ℕ)
    → asks_by o rs service found disk None ≡ Stops image → ⊥
unfolding strikes
none_strikes (Some (Appends item)) (Some rs) service found disk image is =
    by_room (nat_le (used (front service rs) found + need area_limit found item) area_limit) _ _ _ _ image is
none_strikes (Some (WritesDone place)) (Some rs) service found disk image is = absurd cc
none_strikes (Some Rereads) (Some rs) service found disk image is = absurd cc
none_strikes (Some (Appends item)) None service found disk image is = absurd cc
none_strikes (Some (WritesDone place)) None service found disk image is = absurd cc
none_strikes (Some Rereads) None service found disk image is = absurd cc
none_strikes None rs service found disk image is = absurd cc

no_stop : (wanted : Option Wanted) (service : ℕ) (found : Found) (disk : DiskState) (image : List ℕ) → asks wanted service found disk None ≡ Stops image → ⊥
unfolding asks
no_stop wanted service found disk image is = none_strikes wanted (records_on service disk) service found disk image is

-- ---- what was heard is told by the names that were kept

nothing_heard : (w : World) (stop : Stop) (f : Option Family) (roster : Option Roster) (heard : List Effect) → AreNamesKept (Some stop) f roster w → heard ≡ []
    → AreTold w roster heard []
nothing_heard w stop (Some f) (Some r) heard kept none = (f, kept, ap (λ es. all_effect_lines w (cast_of f) es) (sym none))
nothing_heard w stop (Some f) None heard kept none = refl
nothing_heard w stop None (Some r) heard kept none = absurd kept
nothing_heard w stop None None heard kept none = refl

family_heard : (w : World) (e : Event) (stop : Stop) (f : Option Family) (roster : Option Roster) (heard : List Effect) → AreNamesKept (Some stop) f roster w
    → heard ≡ heard_by f e.act → AreTold w roster heard (heard_lines w f e)
family_heard w e stop (Some f) (Some r) heard kept is = (f, kept, ap (λ es. all_effect_lines w (cast_of f) es) (sym is))
family_heard w e stop (Some f) None heard kept is = absurd kept
family_heard w e stop None (Some r) heard kept is = absurd kept
family_heard w e stop None None heard kept is = refl

by_retold : (b : Bool) (w : World) (e : Event) (stop : Stop) (f : Option Family) (roster : Option Roster) (heard : List Effect) → AreNamesKept (Some stop) f roster w
    → heard ≡ heard_by (if b then None else f) e.act → AreTold w roster heard (heard_lines w (if b then None else f) e)
by_retold true w e stop f roster heard kept is = nothing_heard w stop f roster heard kept is
by_retold false w e stop f roster heard kept is = family_heard w e stop f roster heard kept is

pub heard_told : (stop : Option Stop) (w : World) (k : ObjectKey) (e : Event) (n : Node) (wanted : Option Wanted) (service : ℕ) (found : Found) (disk : DiskState)
    (image : List ℕ) (roster : Option Roster) (heard : List Effect) → asks wanted service found disk stop ≡ Stops image
    → AreNamesKept stop (family_of k n) roster w → heard ≡ heard_by (family_for k e n) e.act → AreTold w roster heard (heard_lines w (family_for k e n) e)
heard_told (Some stop) w k e n wanted service found disk image roster heard struck kept is =
    by_retold (is_some (retold_answer e.act)) w e stop (family_of k n) roster heard kept is
heard_told None w k e n wanted service found disk image roster heard struck kept is = absurd (no_stop wanted service found disk image struck)
