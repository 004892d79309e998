use Rattle.std.proofs.Common.{subst}
use Rattle.family_laws.specs.SoundNode.{IsSoundNode}
use Rattle.nodes_lives.specs.Living.{Living}
use Rattle.nodes_lives.specs.Loads.{StoresJournal}
use Rattle.nodes_lives.proofs.Resting.{holds_own}
use Rattle.nodes_lives.proofs.live.LiveNode.kept.Goals as goal

pub returns-clause-sound : goal.returns-clause-sound
returns-clause-sound c = subst (λ (n : Living). IsSoundNode n.node) c.self.view_is c.self.invariant.keeps.sound

pub returns-clause-journal : goal.returns-clause-journal
returns-clause-journal c =
    subst (λ (n : Living). StoresJournal n.node.service n.disk.reads) c.self.view_is
    (holds_own c.self.inside.running.node.value c.self.inside.running.loaded.items c.self.inside.running.end c.self.invariant c.is_current.ensures)
