use Rattle.std.proofs.Common.{◌≡◌, ℕ, List, refl, sym, ap, subst, ◌∙◌}
use Rattle.ots_outside.specs.MemDisk.{MemDiskState}
use Rattle.nodes_lives.specs.Running.{IsRunning, end_from}
use Rattle.nodes_lives.specs.Shown.{living}
use Rattle.nodes_lives.specs.Writing.{Writes}
use Rattle.nodes_lives.proofs.Through.{goes}
use Rattle.nodes_lives.proofs.running.apply.Goals as goal

pub returns-clause-through : goal.returns-clause-through
returns-clause-through c =
    let g = goes _ (λ (d : MemDiskState). d.faults) c.records_are_read.ensures c.nodes_keep_decisions.ensures c.held_records_stood.ensures c.completes_once.ensures
    c.args.key.now c.args.event.now c.args.running.node.value c.apply-answer.new.self c.args.running.loaded.items c.args.running.end c.requires.runs c.is_current.ensures c.apply-answer.result
    c.args.words.now.words c.apply-answer.new.out.words (sym c.if-is_memory.ensures)
    (sym c.if-has_failed.ensures) (rw c.deref_mut.ensures.value at c.apply-answer.ensures.applied) in
    let moved : c.end_from.result ≡ end_from c.apply-answer.new.self.journal.disk.disk.reads c.args.running.end =
    c.end_from.ensures ∙ ap (λ (xs : List ℕ). end_from xs c.args.running.end) c.octets.ensures in
    record {
      stood = g.stood;
      writes = subst (λ (n : ℕ). Writes c.args.key.now c.args.event.now c.args.running.loaded.items (living c.args.running) c.apply-answer.new.self.journal.disk.disk g.stood c.args.running.end n)
          (sym moved) g.writes;
      loaded = refl;
      node = g.node;
      answer = g.answer;
      words_are = g.words_are;
    }

pub returns-clause-runs : goal.returns-clause-runs
returns-clause-runs c =
    let g = goes _ (λ (d : MemDiskState). d.faults) c.records_are_read.ensures c.nodes_keep_decisions.ensures c.held_records_stood.ensures c.completes_once.ensures
    c.args.key.now c.args.event.now c.args.running.node.value c.apply-answer.new.self c.args.running.loaded.items c.args.running.end c.requires.runs c.is_current.ensures c.apply-answer.result
    c.args.words.now.words c.apply-answer.new.out.words (sym c.if-is_memory.ensures)
    (sym c.if-has_failed.ensures) (rw c.deref_mut.ensures.value at c.apply-answer.ensures.applied) in
    let moved : c.end_from.result ≡ end_from c.apply-answer.new.self.journal.disk.disk.reads c.args.running.end =
    c.end_from.ensures ∙ ap (λ (xs : List ℕ). end_from xs c.args.running.end) c.octets.ensures in
    subst (λ (n : ℕ). IsRunning c.apply-answer.new.self c.args.running.loaded.items n) (sym moved) g.runs
