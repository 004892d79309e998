use Rattle.std.proofs.Common.{◌≡◌, ◌∙◌, ◌+◌, ◌-◌, ℕ, ap, sym, subst, arith, length, refl}
use Rattle.decision_journal.specs.State.{JournalState, cells_in}
use Rattle.decision_journal.specs.Journal.{with_record}
use Rattle.decision_journal.specs.Index.{AreBefore}
use Rattle.decision_journal.proofs.Kept.{no_doubt, within_now}
use Rattle.decision_journal.proofs.Below.{before_end}
use Rattle.decision_journal.proofs.Joined.{refused_as}
use Rattle.decision_journal.specs.Loading.{IsDiskFault}
use Rattle.decision_journal.proofs.Roomy.{roomy_added, roomy_unsure}
use Rattle.decision_journal.proofs.Writes.{CanWrite, write_safe, write_done, write_disk, write_records, write_unsure, write_sound, write_within, write_small}
use Rattle.decision_journal.proofs.Calls.{current_of}
use Rattle.decision_journal.proofs.keeping.Journal.write.Goals as goal

pub returns-in-Err-clause-safe : goal.returns-in-Err-clause-safe
returns-in-Err-clause-safe g c =
    let can = subst (λ (j : JournalState g.row.D.Denot). CanWrite j c.args.item) (sym c.self.view_is) (record { kept = c.requires.kept; follows = c.requires.follows; within = c.requires.within; few = c.requires.few; room = c.requires.room }) in
    rw (← c.self.view_is) (write_safe _ _ _ _ _ _ _ c.args.item c.self.invariant.0 can.kept c.requires.fits can.follows can.within (g.D.Disk.told c.append_record.new.disk) c.append_record.ensures.way)

pub returns-clause-safe : goal.returns-clause-safe
returns-clause-safe g c =
    let can = subst (λ (j : JournalState g.row.D.Denot). CanWrite j c.args.item) (sym c.self.view_is) (record { kept = c.requires.kept; follows = c.requires.follows; within = c.requires.within; few = c.requires.few; room = c.requires.room }) in
    rw (← c.self.view_is) (write_safe _ _ _ _ _ _ _ c.args.item c.self.invariant.0 can.kept c.requires.fits can.follows can.within (g.D.Disk.told c.append_record.new.disk) c.append_record.ensures.way)

pub returns-clause-done : goal.returns-clause-done
returns-clause-done g c =
    let can = subst (λ (j : JournalState g.row.D.Denot). CanWrite j c.args.item) (sym c.self.view_is) (record { kept = c.requires.kept; follows = c.requires.follows; within = c.requires.within; few = c.requires.few; room = c.requires.room }) in
    rw (← c.self.view_is) (write_done _ _ _ _ _ _ _ c.args.item c.self.invariant.0 can.kept c.requires.fits can.follows can.within (g.D.Disk.told c.append_record.new.disk) c.in_default.ensures.ok)

pub invariant_of-self : goal.invariant_of-self
invariant_of-self g c =
    let can = subst (λ (j : JournalState g.row.D.Denot). CanWrite j c.args.item) (sym c.self.view_is) (record { kept = c.requires.kept; follows = c.requires.follows; within = c.requires.within; few = c.requires.few; room = c.requires.room }) in
    let left : c.self.inside.room - c.count_cells.result + cells_in c.args.item ≡ c.self.inside.room = omega (arith, c.count_cells.ensures, can.room) in (
      write_unsure _ _ _ _ _ _ _ c.args.item c.self.invariant.0 can.kept c.requires.fits can.follows can.within (g.D.Disk.told c.append_record.new.disk) _ _ _ c.in-Err.ensures.same refl c.doubt.ensures c.append_record.ensures.way,
      roomy_unsure _ _ _ c.self.inside.index _ _ _ _ _ c.args.item c.append_record.ensures.room (no_doubt _ _ c.self.inside.doubted _ can.kept c.self.invariant.0.kept) c.doubt.ensures left can.few c.self.invariant.1,
    )

pub invariant_of-self-2 : goal.invariant_of-self-2
invariant_of-self-2 g c =
    let can = subst (λ (j : JournalState g.row.D.Denot). CanWrite j c.args.item) (sym c.self.view_is) (record { kept = c.requires.kept; follows = c.requires.follows; within = c.requires.within; few = c.requires.few; room = c.requires.room }) in
    let left : c.self.inside.room - c.count_cells.result + cells_in c.args.item ≡ c.self.inside.room = omega (arith, c.count_cells.ensures, can.room) in
    let gate : c.len-gate.result ≡ length c.self.inside.octets.items = omega (arith, c.len-gate.ensures) in
    let none = no_doubt _ _ c.self.inside.doubted _ can.kept c.self.invariant.0.kept in (
      write_sound _ _ _ _ _ _ _ c.args.item c.self.invariant.0 can.kept c.requires.fits can.follows can.within (g.D.Disk.told c.append_record.new.disk) _ _ c.in_default.ensures.more (c.add.ensures.found ∙ ap (λ (n : ℕ). with_record c.self.inside.index.found n c.args.item) gate) c.in_default.ensures.ok,
      roomy_added _ _ _ c.self.inside.index _ c.args.item c.add.new.self c.self.inside.doubted none c.add.ensures.spare c.add.ensures.decisions
          (roomy_unsure _ _ _ c.self.inside.index _ _ _ _ _ c.args.item c.append_record.ensures.room none refl left can.few c.self.invariant.1),
    )

pub returns-clause-current : goal.returns-clause-current
returns-clause-current g c =
    let can = subst (λ (j : JournalState g.row.D.Denot). CanWrite j c.args.item) (sym c.self.view_is) (record { kept = c.requires.kept; follows = c.requires.follows; within = c.requires.within; few = c.requires.few; room = c.requires.room }) in
    let gate : c.len-gate.result ≡ length c.self.inside.octets.items = omega (arith, c.len-gate.ensures) in
    current_of g.D.Disk.told _ (write_sound _ _ _ _ _ _ _ c.args.item c.self.invariant.0 can.kept c.requires.fits can.follows can.within (g.D.Disk.told c.append_record.new.disk) _ _ c.in_default.ensures.more (c.add.ensures.found ∙ ap (λ (n : ℕ). with_record c.self.inside.index.found n c.args.item) gate) c.in_default.ensures.ok)

pub returns-clause-more : goal.returns-clause-more
returns-clause-more g c =
    let can = subst (λ (j : JournalState g.row.D.Denot). CanWrite j c.args.item) (sym c.self.view_is) (record { kept = c.requires.kept; follows = c.requires.follows; within = c.requires.within; few = c.requires.few; room = c.requires.room }) in
    let gate : c.len-gate.result ≡ length c.self.inside.octets.items = omega (arith, c.len-gate.ensures) in
    let found = (c.add.ensures.found ∙ ap (λ (n : ℕ). with_record c.self.inside.index.found n c.args.item) gate) in
    let records = write_records _ _ _ _ _ _ _ c.args.item c.self.invariant.0 can.kept c.requires.fits can.follows can.within _ _ c.in_default.ensures.more found in
    rw (← c.self.view_is) (record {
      records = records.0;
      were = records.1.0;
      place_is = gate;
      area = refl;
      service = refl;
      octets_are = c.in_default.ensures.more;
      found_is = found;
      are = records.1.1;
      failed = refl;
      doubted = no_doubt _ _ c.self.inside.doubted _ can.kept c.self.invariant.0.kept;
    })

pub add-requires-clause-behind : goal.add-requires-clause-behind
add-requires-clause-behind g c =
    let now = within_now _ _ _ _ _ _ _ c.self.invariant.0 in
    subst (λ (n : ℕ). AreBefore n c.self.inside.index.found.standing) (sym (omega (arith, c.len-gate.ensures))) (before_end c.self.inside.service c.self.inside.octets.items c.self.inside.index.found now.filled)

pub append_record-requires-clause-within : goal.append_record-requires-clause-within
append_record-requires-clause-within g c =
    let can = subst (λ (j : JournalState g.row.D.Denot). CanWrite j c.args.item) (sym c.self.view_is) (record { kept = c.requires.kept; follows = c.requires.follows; within = c.requires.within; few = c.requires.few; room = c.requires.room }) in
    write_within _ _ _ _ _ _ _ c.args.item c.self.invariant.0 can.kept c.requires.fits can.follows can.within

pub append_record-requires-clause-small : goal.append_record-requires-clause-small
append_record-requires-clause-small g c =
    let can = subst (λ (j : JournalState g.row.D.Denot). CanWrite j c.args.item) (sym c.self.view_is) (record { kept = c.requires.kept; follows = c.requires.follows; within = c.requires.within; few = c.requires.few; room = c.requires.room }) in
    write_small _ _ _ _ _ _ _ c.args.item c.self.invariant.0 can.kept c.requires.fits can.follows can.within

pub returns-in-Err-clause-fault : goal.returns-in-Err-clause-fault
returns-in-Err-clause-fault g c =
    rw (← c.self.view_is) (refused_as (IsDiskFault g.D.Disk.wants_memory (g.D.Disk.faults c.self.inside.disk) (g.D.Disk.faults c.append_record.new.disk)) c.in-Err.refusal c.fault_of.result c.fault_of.ensures.failed c.fault_of.ensures.memory c.in-Err.ensures.cause c.in-Err.ensures.want)

pub returns-in-Err-clause-unsure : goal.returns-in-Err-clause-unsure
returns-in-Err-clause-unsure g c =
    rw (← c.self.view_is) (record { area = refl; service = refl; octets = c.in-Err.ensures.same; found = refl; doubted = c.doubt.ensures; failed = refl })

pub returns-in-Err-clause-way : goal.returns-in-Err-clause-way
returns-in-Err-clause-way g c = rw (← c.self.view_is) c.append_record.ensures.way

pub returns-clause-disk : goal.returns-clause-disk
returns-clause-disk g c =
    let can = subst (λ (j : JournalState g.row.D.Denot). CanWrite j c.args.item) (sym c.self.view_is) (record { kept = c.requires.kept; follows = c.requires.follows; within = c.requires.within; few = c.requires.few; room = c.requires.room }) in
    rw (← c.self.view_is) (write_disk _ _ _ _ _ _ _ c.args.item c.self.invariant.0 can.kept c.requires.fits can.follows can.within (g.D.Disk.told c.append_record.new.disk) c.len-gate.result (omega (arith, c.len-gate.ensures)) c.in_default.ensures.ok)

pub returns-in-Err-clause-asked : goal.returns-in-Err-clause-asked
returns-in-Err-clause-asked g c = rw (← c.self.view_is) c.in-Err.ensures.asked

pub returns-clause-asked : goal.returns-clause-asked
returns-clause-asked g c = rw (← c.self.view_is) c.in_default.ensures.asked
