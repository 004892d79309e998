use Rattle.std.proofs.Common.{◌≡◌, ◌∙◌, List, length, None, Some, ap, refl, sym}
use Rattle.std.specs.List.{slice_get}
use Rattle.std.specs.Option.{option_copied, option_map}
use Rattle.std.proofs.lemmas.Option.{slice_get_past, slice_get_read}
use Rattle.coordinator.specs.declared.said.Entry.{Entry}
use Rattle.coordinator.specs.declared.said.Said.{Said}
use Rattle.family_step.specs.Callers.{answer_to, call_in}
use Rattle.family_step.proofs.Indexed.{kept_at, kept_none}
use Rattle.family_step.proofs.ready.kept.Goals as goal

pub returns-in_err-call : goal.returns-in_err-call
returns-in_err-call c =
    ap (λ o. option_copied o) c.from_residual.ensures
    ∙ sym (kept_none c.args.callers.now.places c.args.state.now.family.entries c.requires.index c.args.key.now (sym c.find.ensures ∙ c.in_err-call.was))

pub returns-in_err-entry : goal.returns-in_err-entry
returns-in_err-entry c =
    let places = c.args.callers.now.places in
    let entries = c.args.state.now.family.entries in
    let key = c.args.key.now in
    let call = c.in_ok-call.call in
    let at : call_in places key ≡ Some call = sym c.find.ensures ∙ c.in_ok-call.was in
    let xs = c.entries-entries.result.now in
    let none : slice_get xs call.entry ≡ None = slice_get_past xs call.entry c.in_err-entry.ensures.lookup.3 in
    ap (λ o. option_copied o) c.from_residual-in_err-entry.ensures
    ∙ ap (option_map (answer_to entries call)) (sym none ∙ ap (λ (es : List Entry). slice_get es call.entry) c.entries-entries.ensures)
    ∙ sym (kept_at places entries c.requires.index key call at)

pub returns : goal.returns
returns c =
    let places = c.args.callers.now.places in
    let entries = c.args.state.now.family.entries in
    let key = c.args.key.now in
    let call = c.in_ok-call.call in
    let entry = c.in_ok-entry.entry.now in
    let at : call_in places key ≡ Some call = sym c.find.ensures ∙ c.in_ok-call.was in
    let xs = c.entries-entries.result.now in
    let lookup = c.in_ok-entry.ensures.lookup in
    let is : slice_get xs call.entry ≡ Some entry = slice_get_read xs (length xs) call.entry entry refl lookup.3.0 lookup.1 in
    ap (λ (s : Said). Some s) c.answer_to.ensures ∙ ap (λ (es : List Entry). Some (answer_to es call entry)) c.entries-entries.ensures
    ∙ ap (option_map (answer_to entries call)) (sym is ∙ ap (λ (es : List Entry). slice_get es call.entry) c.entries-entries.ensures)
    ∙ sym (kept_at places entries c.requires.index key call at)
