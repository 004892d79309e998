use Rattle.std.proofs.Common.{rules, ◌≡◌, List, ℕ, sym, subst, ◌∙◌, ap}
use Rattle.ots_outside.specs.declared.mem_disk.DiskEvent.TheVariants.{Wrote}
use Rattle.ots_outside.specs.Disk.{DiskState, IsImage, at_first, overwritten, written}
use Rattle.ots_outside.specs.MemDisk.{after_events}
use Rattle.ots_outside.proofs.Disks.{after_one_more, IsKept-at, IsImage-written, on_ok, OnOk-always}
use Rattle.ots_outside.proofs.mem_disk.SureDisk.write.Goals as goal

-- the disk after the event
wrote : (c : goal.Else-is_err) → after_events (at_first c.self.inside.start.items) c.push.new.self.items ≡ written c.args.place c.args.bytes.now c.args.self.now
wrote c =
    let same : c.in_ok-octets.octets.items ≡ c.args.bytes.now = search rules in
    after_one_more _ c.args.self.now c.self.inside.events.items c.push.new.self.items (Wrote c.args.place c.in_ok-octets.octets) c.self.view_is c.in_ok-push.ensures.items
    ∙ ap (λ (octets : List ℕ). written c.args.place octets c.args.self.now) same

image : (c : goal.Else-is_err) → IsImage c.args.self.now.present c.args.self.now.reads
image c = subst (λ disk. IsImage disk.present disk.reads) c.self.view_is c.self.invariant.image

pub invariant_of-self-else-is_err : goal.invariant_of-self-else-is_err
invariant_of-self-else-is_err c =
    let kept : c.args.self.now.reads ≡ c.self.inside.octets.items = ap (λ (disk : DiskState). disk.reads) (sym c.self.view_is) ∙ c.self.invariant.reads in
    let over = on_ok c.overwrite-wrote.result (sym c.is_err.ensures.value ∙ c.if-is_err.false) c.overwrite-wrote.ensures.ok in
    IsKept-at _ (written c.args.place c.args.bytes.now c.args.self.now) _ (wrote c)
    (ap (λ (octets : List ℕ). overwritten octets c.args.place c.args.bytes.now) kept ∙ sym over)
    (IsImage-written c.args.self.now c.args.place c.args.bytes.now c.requires (image c))

pub returns-else-is_err-clause-ok : goal.returns-else-is_err-clause-ok
returns-else-is_err-clause-ok c = OnOk-always c.overwrite-wrote.result (wrote c)

pub returns-else-is_err-clause-image : goal.returns-else-is_err-clause-image
returns-else-is_err-clause-image c = (
  image c,
  subst (λ disk. IsImage disk.present disk.reads) (sym (wrote c)) (IsImage-written c.args.self.now c.args.place c.args.bytes.now c.requires (image c)),
)
