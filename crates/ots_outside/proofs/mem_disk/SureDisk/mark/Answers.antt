use Rattle.std.proofs.Common.{◌≡◌, sym, subst, ◌∙◌, ap}
use Rattle.ots_outside.specs.declared.mem_disk.DiskEvent.TheVariants.{Synced}
use Rattle.ots_outside.specs.Disk.{DiskState, IsImage, at_first, synced}
use Rattle.ots_outside.specs.MemDisk.{after_events}
use Rattle.ots_outside.proofs.Disks.{after_one_more, IsKept-at, IsImage-synced}
use Rattle.ots_outside.proofs.mem_disk.SureDisk.mark.Goals as goal

-- the disk after the event
marked : (c : goal.In_ok-push) → after_events (at_first c.self.inside.start.items) c.push.new.self.items ≡ synced c.args.self.now
marked c = after_one_more _ c.args.self.now c.self.inside.events.items c.push.new.self.items Synced c.self.view_is c.in_ok-push.ensures.items

pub invariant_of-self-2 : goal.invariant_of-self-2
invariant_of-self-2 c =
    IsKept-at _ (synced c.args.self.now) _ (marked c) (ap (λ (disk : DiskState). disk.reads) (sym c.self.view_is) ∙ c.self.invariant.reads) (IsImage-synced c.args.self.now)

pub returns-clause-ok : goal.returns-clause-ok
returns-clause-ok c = marked c

pub returns-clause-image : goal.returns-clause-image
returns-clause-image c = (
  subst (λ disk. IsImage disk.present disk.reads) c.self.view_is c.self.invariant.image,
  subst (λ disk. IsImage disk.present disk.reads) (sym (marked c)) (IsImage-synced c.args.self.now),
)
