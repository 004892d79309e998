-- A completion that has no word to send stays as it is.
use Rattle.std.proofs.Common.{◌≡◌, ◌∙◌, refl, ap, subst, sym, true, false, Option, Some, None, is_some, if◌then◌else◌}
use Rattle.std.specs.List.{slice_get}
use Rattle.std.specs.Option.{option_map, option_and_then}
use Rattle.ots_model.specs.declared.tree.Outward.{Outward}
use Rattle.two_phase.specs.Course.{Course, errand, next_word, after_next, outward, outward_of, word_of}
use Rattle.two_phase.specs.CourseInside.{IsOpen, OpenAt}
use Rattle.two_phase.specs.LawsOfAnswers.{NextIsOpen}
use Rattle.two_phase.specs.Stages as stages
use Rattle.two_phase.specs.Stages.{Standing, Waiting, Going as UnderWay}
use Rattle.two_phase.specs.declared.party.Errand.{Errand}
use Rattle.two_phase.specs.declared.party.Party.{Party}
use Rattle.family_rules.specs.StateInside.{unroomed}

party_there : (c : Course) (e : Errand) (o : Option Party) → slice_get c.parties e.place ≡ o → IsOpen c.parties (Some e)
    → is_some (option_map (outward c (word_of c e.stage)) o) ≡ true
party_there c e None at opened = absurd (subst (OpenAt e.stage) at opened)
party_there c e (Some p) at opened = refl

word_there : NextIsOpen → (c : Course) (e : Errand) → errand c ≡ Some e → is_some (outward_of c e) ≡ true
word_there law c e h = party_there c e (slice_get c.parties e.place) refl (law c e h)

not_both : (o : Option Outward) → o ≡ None → is_some o ≡ true → true ≡ false
not_both None h k = sym k
not_both (Some w) h k = absurd (cc (h))

same_course : NextIsOpen → (c : Course) (o e : Option Errand) → c.out ≡ o → errand c ≡ e → next_word c ≡ None → after_next c ≡ c
unfolding next_word
same_course law c (Some x) e out is none = ap (λ (y : Option Errand). if is_some y then c else record c { out = errand c }) out
same_course law c None None out is none =
    ap (λ (y : Option Errand). if is_some y then c else record c { out = errand c }) out
    ∙ ap (λ (y : Option Errand). record c { out = y }) (is ∙ sym out)
same_course law c None (Some x) out is none =
    let by : next_word c ≡ outward_of c x =
    ap (λ (y : Option Errand). if is_some y then None else option_and_then (outward_of c) (errand c)) out
    ∙ ap (λ (y : Option Errand). option_and_then (outward_of c) y) is in
    let no = not_both (outward_of c x) (sym by ∙ none) (word_there law c x is) in
    absurd (cc (no))

pub rests_as_it_was : NextIsOpen → (s : Standing) → stages.next_word s ≡ None → unroomed (stages.after_next s) ≡ unroomed s
rests_as_it_was law (Waiting room) h = refl
rests_as_it_was law (UnderWay c) h = ap (λ (x : Course). UnderWay x) (same_course law c c.out (errand c) refl refl h)
