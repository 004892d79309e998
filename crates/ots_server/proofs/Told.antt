-- How the words of a step go out one by one, and what its call is answered in the end.
use Rattle.std.proofs.Common.{inl, inr, ◌∙◌, ◌≡◌, ◌≤◌, ◌∷◌, ◌++◌, ◌||◌, refl, sym, ap, subst, ℕ, Bool, true, false, List, [], find, Option, Some, None, drop, if◌then◌else◌}
use Rattle.std.specs.List.{slice_get}
use Rattle.std.specs.Option.{option_map, option_or}
use Rattle.std.proofs.lemmas.List.{flat_map_more}
use Rattle.std.proofs.lemmas.List.Folds.{find-append, list_any-append}
use Rattle.ots_calls.specs.declared.answer.Answer.{Answer}
use Rattle.ots_calls.specs.declared.answer.Answer.TheVariants as answers
use Rattle.ots_calls.specs.declared.answer.Completed.TheVariants.{Maybe}
use Rattle.ots_calls.specs.declared.call.Called.{Called}
use Rattle.ots_calls.specs.declared.system.SystemException.TheVariants.{NoMemory}
use Rattle.ots_context.specs.declared.context.Context.{Context}
use Rattle.ots_model.specs.declared.service.Endpoint.{Endpoint}
use Rattle.ots_model.specs.declared.tree.Outward.{Outward}
use Rattle.coordinator.specs.History.{answer_among, is_for, is_later}
use Rattle.coordinator.specs.declared.said.Finished.{Finished}
use Rattle.coordinator.specs.declared.said.Said.{Said}
use Rattle.coordinator.specs.declared.said.StepAnswer.{StepAnswer}
use Rattle.ots_server.specs.Said.{answer_of}
use Rattle.tree_room.specs.declared.fault.RoomFault.TheVariants as refusals
use Rattle.ots_model.specs.declared.tree.Heard.{Heard}
use Rattle.std.specs.Prelude.{IfSome}
use Rattle.ots_sessions.specs.References.{coordinator_key}
use Rattle.outward_calls.specs.Moment.{LinkMoment}
use Rattle.outward_calls.specs.Words.{IsLostBy, IsSent, home}
use Rattle.ots_server.specs.Site.{Answers, Refuses, Site}
use Rattle.ots_server.specs.StepsInside.{AreTold, EndsStep, HasGoneNext, HaveGoneSo, IsToldBy, at_once, finished_in, or_among}
use Rattle.ots_server.specs.Telling.{HaveGone, Telling, event_of, home_of, is_starved, is_want, none, one_more, or_overtaken, overtaken, said_in_the_end}

trans : {A : Type 0} {x y z : A} → x ≡ y → y ≡ z → x ≡ z
trans p q = p ∙ q

-- the first of some words, and those behind it
pub first_word : (words : List Outward) (word : Outward) → slice_get words 0 ≡ Some word → words ≡ word ∷ drop 1 words
first_word [] word h = absurd (cc (h))
first_word (w ∷ words) word h = let same : w ≡ word = cc (h) in ap (λ x. x ∷ words) same

or_false : (b : Bool) → (b || false) ≡ b
or_false true = refl
or_false false = refl

starved_more : (tellings : List Telling) (t : Telling) → is_starved (tellings ++ t ∷ []) ≡ (is_starved tellings || is_want t.heard)
starved_more tellings t = trans (list_any-append (λ (x : Telling). is_want x.heard) tellings (t ∷ [])) (ap (λ b. is_starved tellings || b) (or_false (is_want t.heard)))

finished_more : (tellings : List Telling) (t : Telling) → (finished_in tellings ++ t.finished) ≡ finished_in (tellings ++ t ∷ [])
finished_more tellings t = flat_map_more (λ (x : Telling). x.finished) [] tellings t

pub some_of : {A : Type 0} (P : A → Type 0) (o : Option A) (x : A) → o ≡ Some x → IfSome o P → P x
some_of P o x is h = subst (λ (o' : Option _). IfSome o' P) is h

-- ---- what a call is answered so far

module _ (at : Endpoint) (called : Called) where
  abbrev answered : Option Finished → Option Answer
  answered found = option_map (answer_of at called.key called.call None) (option_map (λ (a : Finished). a.said) found)

  by_found : (position : ℕ) (ys : List Finished) (found : Option Finished)
      → answered (option_or found (find (is_for position) ys)) ≡ or_among at called position ys (answered found)
  by_found position ys None = refl
  by_found position ys (Some f) = refl

  or_among_more : (position : ℕ) (xs ys : List Finished) (first : Option Answer)
      → or_among at called position (xs ++ ys) first ≡ or_among at called position ys (or_among at called position xs first)
  or_among_more position xs ys (Some a) = refl
  or_among_more position xs ys None = trans (ap answered (find-append (is_for position) xs ys)) (by_found position ys (find (is_for position) xs))

  -- the answer of a call that has none yet is that it was overtaken
  abbrev from_answer : Option Answer → Answer
  from_answer (Some a) = a
  from_answer None = answer_of at called.key called.call None (overtaken called.call)

  by_said : (said : Option Said) → from_answer (option_map (answer_of at called.key called.call None) said)
      ≡ answer_of at called.key called.call None (or_overtaken called.call said)
  by_said None = refl
  by_said (Some said) = refl

  module _ (step : StepAnswer) (finished : List Finished) where
    at_last : (b : Bool) (context : Option Context) → (b ≡ true → context ≡ None)
        → from_answer (or_among at called step.position finished
        (if b then or_among at called step.position step.finished None else Some (answer_of at called.key called.call context step.said)))
        ≡ answer_of at called.key called.call context
        (if b then or_overtaken called.call (answer_among step.position (step.finished ++ finished)) else step.said)
    at_last false context later = refl
    at_last true context later =
        let more = or_among_more step.position step.finished finished None in
        let said = by_said (answer_among step.position (step.finished ++ finished)) in
        let no_context = later refl in
        subst (λ c. from_answer (or_among at called step.position finished (or_among at called step.position step.finished None))
        ≡ answer_of at called.key called.call c (or_overtaken called.call (answer_among step.position (step.finished ++ finished))))
        (sym no_context) (trans (ap from_answer (sym more)) said)

-- ---- one word

module _ {D : Type 0} (s : Site D) (now : ℕ) (word : Outward) (heard : Heard) (rest more : List Outward) where
  pub told_to : (answer : StepAnswer) (context : Option Context)
      → Answers s (coordinator_key s.room.service word.number 0) (event_of now word heard) answer context rest more
      → IsToldBy s now word heard answer.finished rest more
  told_to answer context answered = inl (record { answer = answer; context = context; answered = answered; finished_are = refl })

  pub told_nobody : Refuses s (coordinator_key s.room.service word.number 0) (event_of now word heard) refusals.ObjectNotExist rest more
      → IsToldBy s now word heard [] rest more
  told_nobody gone = inr (record { gone = gone; nobody = refl })

pub goes_next_told : {D : Type 0} (s : Site D) (now : ℕ) (words : List Outward) (word : Outward) (before after : LinkMoment) (heard : Heard)
    (starved : Bool) (finished : List Finished) (more : List Outward) → slice_get words 0 ≡ Some word
    → (at : Endpoint) (service : ℕ) → at ≡ s.room.at → service ≡ s.room.service
    → IfSome before.exchanged (λ done. IsSent (home at service 85) word heard done after.exchanged) → IsLostBy heard before.faults after.faults
    → before.faults ≤ after.faults → starved ≡ is_want heard → IsToldBy s now word heard finished (drop 1 words) more
    → HasGoneNext s now words before starved finished more after
goes_next_told s now words word before after heard starved finished more first at service at_is service_is sent lost later starved_is told = record {
  word = word;
  rest = drop 1 words;
  words_are = first_word words word first;
  telling = record { heard = heard; finished = finished };
  told = record {
    sent = subst (λ n. IfSome before.exchanged (λ done. IsSent (home s.room.at n 85) word heard done after.exchanged)) service_is
        (subst (λ a. IfSome before.exchanged (λ done. IsSent (home a service 85) word heard done after.exchanged)) at_is sent);
    lost = lost;
    later = later;
    told = told;
  };
  starved_is = starved_is;
  finished_are = refl;
}

-- ---- word by word

module _ {D : Type 0} (s : Site D) (now : ℕ) (words : List Outward) (before : LinkMoment) where
  pub goes_first : HaveGoneSo s now words before false words before
  goes_first = record { tellings = []; gone = none; starved_is = refl }

  pub told_first : (called : Called) (position : ℕ) (first : Option Answer)
      → AreTold s now called position words before first false first words before
  told_first called position None = record { tellings = []; gone = none; starved_is = refl; answer_is = refl }
  told_first called position (Some answer) = record { tellings = []; gone = none; starved_is = refl; answer_is = refl }

  pub goes_next : (starved starved' : Bool) (more more' : List Outward) (finished : List Finished) (midway after : LinkMoment)
      → HaveGoneSo s now words before starved more midway → HasGoneNext s now more midway starved' finished more' after
      → HaveGoneSo s now words before (starved || starved') more' after
  goes_next starved starved' more more' finished midway after h n = record {
    tellings = h.tellings ++ n.telling ∷ [];
    gone = one_more h.tellings n.telling n.word n.rest more' midway after
        (subst (λ w. HaveGone s now words before h.tellings w midway) n.words_are h.gone) n.told;
    starved_is = cc (h.starved_is, n.starved_is, starved_more h.tellings n.telling);
  }

  pub told_next : (called : Called) (position : ℕ) (first answer answer' : Option Answer) (starved starved' : Bool) (more more' : List Outward)
      (finished : List Finished) (midway after : LinkMoment)
      → AreTold s now called position words before first starved answer more midway
      → HasGoneNext s now more midway starved' finished more' after
      → answer' ≡ or_among s.room.at called position finished answer
      → AreTold s now called position words before first (starved || starved') answer' more' after
  told_next called position first answer answer' starved starved' more more' finished midway after h n is = record {
    tellings = h.tellings ++ n.telling ∷ [];
    gone = one_more h.tellings n.telling n.word n.rest more' midway after
        (subst (λ w. HaveGone s now words before h.tellings w midway) n.words_are h.gone) n.told;
    starved_is = cc (h.starved_is, n.starved_is, starved_more h.tellings n.telling);
    answer_is = cc (
      is,
      h.answer_is,
      n.finished_are,
      finished_more h.tellings n.telling,
      or_among_more s.room.at called position (finished_in h.tellings) n.telling.finished first,
    );
  }

  module _ (called : Called) (step : StepAnswer) (context : Option Context) (after : LinkMoment) where
    pub ends_starved : (first : Option Answer) (starved : Bool) (answer : Option Answer) → first ≡ at_once s.room.at called step context → starved ≡ true
        → AreTold s now called step.position words before first starved answer [] after
        → EndsStep s now called step context words before after (answers.System NoMemory 0 Maybe)
    ends_starved first starved answer first_is starved_is h = record {
      tellings = h.tellings;
      gone = h.gone;
      answer_is = ap (λ b. if b then answers.System NoMemory 0 Maybe
          else answer_of s.room.at called.key called.call context (said_in_the_end called.call step h.tellings)) (sym starved_is ∙ h.starved_is);
    }

    ends : (answer : Option Answer) → (is_later step.said ≡ true → context ≡ None)
        → AreTold s now called step.position words before (at_once s.room.at called step context) false answer [] after
        → EndsStep s now called step context words before after (from_answer s.room.at called answer)
    ends answer later h =
        let said = at_last s.room.at called step (finished_in h.tellings) (is_later step.said) context later in
        let is = trans (ap (from_answer s.room.at called) h.answer_is) said in
        record {
          tellings = h.tellings;
          gone = h.gone;
          answer_is = subst (λ b. from_answer s.room.at called answer ≡ (if b then answers.System NoMemory 0 Maybe
              else answer_of s.room.at called.key called.call context (said_in_the_end called.call step h.tellings))) h.starved_is is;
        }

    pub ends_answered : (first : Option Answer) (starved : Bool) (ending : Option Answer) (answer : Answer)
        → first ≡ at_once s.room.at called step context → starved ≡ false → ending ≡ Some answer → (is_later step.said ≡ true → context ≡ None)
        → AreTold s now called step.position words before first starved ending [] after
        → EndsStep s now called step context words before after answer
    ends_answered first starved ending answer first_is starved_is ending_is later h = ends (Some answer) later
        (subst (λ o. AreTold s now called step.position words before (at_once s.room.at called step context) false o [] after) ending_is
        (subst (λ b. AreTold s now called step.position words before (at_once s.room.at called step context) b ending [] after) starved_is
        (subst (λ f. AreTold s now called step.position words before f starved ending [] after) first_is h)))

    pub ends_overtaken : (first : Option Answer) (starved : Bool) (ending : Option Answer) (said : Said) (answer : Answer)
        → first ≡ at_once s.room.at called step context → starved ≡ false → ending ≡ None
        → said ≡ overtaken called.call → answer ≡ answer_of s.room.at called.key called.call None said
        → (is_later step.said ≡ true → context ≡ None) → AreTold s now called step.position words before first starved ending [] after
        → EndsStep s now called step context words before after answer
    ends_overtaken first starved ending said answer first_is starved_is ending_is said_is is later h =
        subst (λ a. EndsStep s now called step context words before after a)
        (sym (is ∙ ap (λ x. answer_of s.room.at called.key called.call None x) said_is)) (ends None later
        (subst (λ o. AreTold s now called step.position words before (at_once s.room.at called step context) false o [] after) ending_is
        (subst (λ b. AreTold s now called step.position words before (at_once s.room.at called step context) b ending [] after) starved_is
        (subst (λ f. AreTold s now called step.position words before f starved ending [] after) first_is h))))
