-- A step that makes an entry, part by part.
use Rattle.std.proofs.Common.{◌≡◌, ◌∙◌, ◌<◌, ◌||◌, refl, ap, sym, ℕ, Bool, true, false, not, is_some, List, [], ◌∷◌, ◌++◌, length, Option, Some, None, arith, if◌then◌else◌}
use Rattle.std.specs.Prelude.{nat_le}
use Rattle.std.proofs.lemmas.Bool.Decides.{nat_tests}
use Rattle.ots_model.specs.declared.completion.Stood.{Stood}
use Rattle.ots_model.specs.declared.tree.Outward.{Outward}
use Rattle.coordinator.specs.Family.{Family}
use Rattle.coordinator.specs.History.{has_room, is_full, is_own_act, kept_for}
use Rattle.coordinator.specs.Limits.{call_limit, history_limit}
use Rattle.coordinator.specs.Moves.{Moved, after}
use Rattle.coordinator.specs.NodeCalls.{answer_of}
use Rattle.coordinator.specs.Step.{Stepped, entered, entry_of, said_later, said_now}
use Rattle.coordinator.specs.Table.{Acted}
use Rattle.coordinator.specs.declared.effect.Effect.{Effect}
use Rattle.coordinator.specs.declared.event.Event.{Event}
use Rattle.coordinator.specs.declared.said.Entry.{Entry}
use Rattle.coordinator.specs.declared.said.Finished.{Finished}
use Rattle.coordinator.specs.declared.said.Said.{Said}
use Rattle.coordinator.specs.declared.said.StepAnswer.{StepAnswer}
use Rattle.family_rules.specs.Changes.{Changes, DraftParts, nothing_yet, so_far}
use Rattle.family_step.specs.Acting.{brings}

-- a draft that had nothing has what the rule brought
pub all_of : (f g : Family) (d k : DraftParts) (m : Moved) → d.changes ≡ (nothing_yet 0 0).changes → so_far g k ≡ after (so_far f d) m → so_far g k ≡ m
all_of f g d k m none does =
    does ∙ ap (λ (x : Changes). after (record { family = f; words = x.words; finished = x.finished; effects = x.effects }) m) none

pub said_is : (f : Family) (a : Acted) (position : ℕ) (finished : List Finished) (x y : Said) → position ≡ length f.entries → finished ≡ a.moved.finished → x ≡ a.said
    → y ≡ said_now position finished x → y ≡ said_now (length f.entries) a.moved.finished a.said
said_is f a position finished x y at some is says =
    says
    ∙ (ap (λ (n : ℕ). said_now n finished x) at
    ∙ (ap (λ (xs : List Finished). said_now (length f.entries) xs x) some ∙ ap (λ (z : Said). said_now (length f.entries) a.moved.finished z) is))

pub later_is : (f : Family) (a : Acted) (position : ℕ) (finished others : List Finished) → position ≡ length f.entries → finished ≡ a.moved.finished
    → others ≡ said_later position finished → others ≡ said_later (length f.entries) a.moved.finished
later_is f a position finished others at some is =
    is ∙ (ap (λ (n : ℕ). said_later n finished) at ∙ ap (λ (xs : List Finished). said_later (length f.entries) xs) some)

pub entered_family : (f g h : Family) (e : Event) (stood : Option Stood) (a : Acted) (answer : Said) (others : List Finished) → g ≡ a.moved.family → g.entries ≡ f.entries
    → answer ≡ said_now (length f.entries) a.moved.finished a.said → others ≡ said_later (length f.entries) a.moved.finished
    → h ≡ record g { entries = g.entries ++ entry_of e stood answer others ∷ [] } → h ≡ (entered f e stood a).family
unfolding entered
entered_family f g h e stood a answer others is same says later made =
    let now : Said = said_now (length f.entries) a.moved.finished a.said in
    made
    ∙ (ap (λ (xs : List Entry). record g { entries = xs ++ entry_of e stood answer others ∷ [] }) same
    ∙ (ap (λ (x : Family). record x { entries = f.entries ++ entry_of e stood answer others ∷ [] }) is
    ∙ (ap (λ (x : Said). record a.moved.family { entries = f.entries ++ entry_of e stood x others ∷ [] }) says
    ∙ ap (λ (xs : List Finished). record a.moved.family { entries = f.entries ++ entry_of e stood now xs ∷ [] }) later)))

pub entered_answer : (f : Family) (e : Event) (stood : Option Stood) (a : Acted) (position : ℕ) (answer : Said) (others : List Finished) (happened : List Effect)
    → position ≡ length f.entries → answer ≡ said_now (length f.entries) a.moved.finished a.said → others ≡ said_later (length f.entries) a.moved.finished
    → happened ≡ a.moved.effects
    → ◌≡◌ {A = StepAnswer} (record { position = position; said = answer; finished = others; effects = happened }) (answer_of f (entered f e stood a))
unfolding entered
entered_answer f e stood a position answer others happened at says later some =
    let n : ℕ = length f.entries in
    let now : Said = said_now n a.moved.finished a.said in
    ap (λ (x : ℕ). record { position = x; said = answer; finished = others; effects = happened }) at
    ∙ (ap (λ (x : Said). record { position = n; said = x; finished = others; effects = happened }) says
    ∙ (ap (λ (x : List Finished). record { position = n; said = now; finished = x; effects = happened }) later
    ∙ ap (λ (x : List Effect). record { position = n; said = now; finished = said_later n a.moved.finished; effects = x }) some))

pub entered_words : (f : Family) (e : Event) (stood : Option Stood) (a : Acted) (before now words : List Outward) → words ≡ a.moved.words → now ≡ before ++ words
    → now ≡ before ++ (entered f e stood a).words
unfolding entered
entered_words f e stood a before now words is made = made ∙ ap (λ (ws : List Outward). before ++ ws) is

-- a step tells the history of before, and what it has brought
entered_at : List Entry → Event → Option Stood → Acted → Stepped
entered_at entries e stood a =
    let position : ℕ = length entries in
    let answer : Said = said_now position a.moved.finished a.said in
    let others : List Finished = said_later position a.moved.finished in
    record {
      family = record a.moved.family { entries = entries ++ entry_of e stood answer others ∷ [] };
      said = answer;
      words = a.moved.words;
      finished = others;
      effects = a.moved.effects;
    }

entered_is : (f : Family) (e : Event) (stood : Option Stood) (a : Acted) → entered f e stood a ≡ entered_at f.entries e stood a
unfolding entered entered_at
entered_is f e stood a = refl

pub brought_is : (g : Family) (d : DraftParts) (answer : Said) (a : Acted) → so_far g d ≡ a.moved → answer ≡ a.said → brings g d answer ≡ a
brought_is g d answer a all says =
    ap (λ (m : Moved). record { moved = m; said = answer }) all ∙ ap (λ (x : Said). record { moved = a.moved; said = x }) says

pub entered_same : (f g : Family) (e : Event) (stood : Option Stood) (d : DraftParts) (answer : Said) (a : Acted) → so_far g d ≡ a.moved → answer ≡ a.said → g.entries ≡ f.entries
    → entered g e stood (brings g d answer) ≡ entered f e stood a
entered_same f g e stood d answer a all says same =
    entered_is g e stood (brings g d answer)
    ∙ (ap (λ (x : Acted). entered_at g.entries e stood x) (brought_is g d answer a all says)
    ∙ (ap (λ (xs : List Entry). entered_at xs e stood a) same ∙ sym (entered_is f e stood a)))

pub answer_same : (f g : Family) (e : Event) (stood : Option Stood) (d : DraftParts) (answer : Said) (a : Acted) → so_far g d ≡ a.moved → answer ≡ a.said → g.entries ≡ f.entries
    → answer_of g (entered g e stood (brings g d answer)) ≡ answer_of f (entered f e stood a)
answer_same f g e stood d answer a all says same =
    let s : Stepped = entered g e stood (brings g d answer) in
    ap (λ (xs : List Entry). record { position = length xs; said = s.said; finished = s.finished; effects = s.effects }) same
    ∙ ap (λ (x : Stepped). answer_of f x) (entered_same f g e stood d answer a all says same)

-- ---- the history has room

not_full : (known : Option Said) (full : Bool) → known ≡ None → (is_some known || not full) ≡ true → full ≡ false
not_full None false none h = refl
not_full None true none h = absurd (cc (h))
not_full (Some x) full none h = absurd (cc (none))

within : (own : Bool) (n : ℕ) → nat_le (if own then history_limit else call_limit) n ≡ false → n < history_limit
within true n h = grind (arith, nat_tests)
within false n h = grind (arith, nat_tests)

pub room_for : (entries : List Entry) (e : Event) → has_room entries e ≡ true → kept_for entries e.key ≡ None → length entries < history_limit
room_for entries e fits new =
    within (is_own_act e.act) (length entries) (not_full (kept_for entries e.key) (is_full (length entries) e) new fits)
