use Rattle.std.proofs.Common.{◌∙◌, Bool, List, ◌++◌, sym, ap}
use Rattle.std.proofs.lemmas.List.{append-nil}
use Rattle.ots_model.specs.declared.tree.Outward.{Outward}
use Rattle.recovery_coord.specs.Held.{is_decided}
use Rattle.recovery_coord.specs.Waiting.{have_words, waiting_of}
use Rattle.recovery_coord.proofs.Waited.{no_words}
use Rattle.recovery_coord.proofs.telling.tell_words.Goals as goal

pub returns-then-not-have_words-clause-ok : goal.returns-then-not-have_words-clause-ok
returns-then-not-have_words-clause-ok c =
    let held = c.args.held.now in
    let decided = ap (λ (d : Bool). have_words d (waiting_of held.parties)) c.is_decided-decided.ensures in
    let none = no_words c.args.life held.place (is_decided held.kind) held.parties (sym decided ∙ sym c.have_words.ensures ∙ c.if-not-have_words.true) in
    sym (append-nil c.args.out.now.words) ∙ ap (λ (ws : List Outward). c.args.out.now.words ++ ws) (sym none)
