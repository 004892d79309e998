-- A resource that has answered commit has stored its updates, as a line tells. So it stays.
use Rattle.std.proofs.Common.{◌≡◌, inl, inr, ℕ, ◌+◌, IsTrue, is_some, List, ◌++◌, slice_get, Option, Some, None, refl, sym, ap, subst, ◌∙◌, append_assoc, append-nil, arith}
use Rattle.std.proofs.lemmas.List.Elements.{filter_map-append}
use Rattle.ots_model.specs.Safe.{Stands}
use Rattle.ots_model.specs.declared.completion.Word.TheVariants as phase_words
use Rattle.ots_model.specs.declared.line.Line.{Line}
use Rattle.ots_model.specs.declared.line.Line.TheVariants as lines
use Rattle.ots_model.specs.declared.line.ResourceState.TheVariants as shown
use Rattle.ots_model.specs.declared.tree.Outward.{Outward}
use Rattle.ots_model.specs.declared.tree.Word.TheVariants as words
use Rattle.coordinator.specs.declared.said.Said.{Said}
use Rattle.nodes_world.specs.declared.message.Content.{Content}
use Rattle.nodes_world.specs.declared.message.Content.TheVariants as contents
use Rattle.nodes_world.specs.declared.message.Message.{Message}
use Rattle.nodes_world.specs.Agreement.{IsWord, Reaches, nothing, further}
use Rattle.nodes_world.specs.AgreementInside.{Known, phase_of}
use Rattle.nodes_world.specs.AgreementSteps.{GoesOn, StepsStayKnown, still, further as and_further}
use Rattle.nodes_world.specs.Ends.{obeys}
use Rattle.nodes_world.specs.Happenings.{Done}
use Rattle.nodes_world.specs.OverForGood.{AnsweredCommitsAreStored}
use Rattle.nodes_world.specs.Step.{carried_out}
use Rattle.nodes_world.specs.Told.{Told, known, known_in}
use Rattle.nodes_world.specs.World.{World, NamedKey, referred, thing}
use Rattle.nodes_world.proofs.CommitsStored.{stored}
use Rattle.nodes_world.proofs.Delivered.{reached_delivered}
use Rattle.nodes_world.proofs.DisksSame.{obeys_same}
use Rattle.nodes_world.proofs.GoingOn.{deeds_go}
use Rattle.nodes_world.proofs.KnownLines.{among_back, among_turned, in_front, lines_of, referred_named}
use Rattle.nodes_world.proofs.KnownWords.{resource_of}
use Rattle.nodes_world.proofs.MessagesGo.{HasContent, MessagesStep, goes, messages_step, obeys_answers, obeys_one}
use Rattle.nodes_world.proofs.Reaching.{goes_known, known_reached}

inner : {A : Type 0} {x y : A} → Some x ≡ Some y → x ≡ y
inner e = cc

is_there : {A : Type 0} (o : Option A) → IsTrue (is_some o) → (x : A) × (o ≡ Some x)
is_there (Some x) is = (x, refl)
is_there None is = absurd cc

-- what was sent so-many-th has one content
one_content : (w : World) (i j : ℕ) (a b : Content) → i ≡ j → HasContent w i a → HasContent w j b → a ≡ b
one_content w i j a b same first other =
    sym first.2 ∙ ap (λ (m : Message). m.content) (inner (sym first.1 ∙ ap (slice_get w.messages) same ∙ other.1)) ∙ other.2

one_word : {p q : ℕ} {a b : Outward} → contents.Request p a ≡ contents.Request q b → a ≡ b
one_word e = cc

-- a line tells that the resource to which a reference leads has stored its updates
pub record IsStored (w : World) (told : List Told) (to : List ℕ) : Type 0 where
  pub object : NamedKey
  pub refers : referred w to ≡ Some object
  pub line : Stands (lines.State object.name shown.Applied) (lines_of told)

-- so has each one that has answered commit
abbrev pub AreStored : World → List Told → Type 0
AreStored w told = (nth place reply : ℕ) (o : Outward) (answer : Said) → IsWord w nth place o → o.word ≡ words.Phase phase_words.Commit
    → HasContent w reply (contents.Reply (nth + 1) answer) → IsStored w told o.to

-- ---- one step

module _ (w v : World) (told more : List Told) (k : Known w told) (later : Known v (told ++ more))
    (on : (nth : ℕ) (content : Content) → HasContent w nth content → HasContent v nth content) where
  abbrev all : List Told
  all = told ++ more

  stands_on : (line : Line) → Stands line (lines_of told) → Stands line (lines_of all)
  stands_on line s = among_turned (known all) line
      (subst (Stands line) (sym (filter_map-append known_in told more)) (in_front (known told) (known more) line (among_back (known told) line s)))

  -- the reference of a commit word leads to the same resource
  same_object : (nth place : ℕ) (o : Outward) (x : NamedKey) → IsWord w nth place o → o.word ≡ words.Phase phase_words.Commit → referred w o.to ≡ Some x
      → (y : NamedKey) × (referred v o.to ≡ Some y) × (y.name ≡ x.name)
  same_object nth place o x word commit refers =
      let sent = k.words.told nth place o phase_words.Commit x word (ap phase_of commit) refers in
      let at = later.words.sent (nth + 1) phase_words.Commit x.name (stands_on _ sent) in
      let number = at.5 in
      let same : at.2 ≡ o = one_word (one_content v at.0 nth _ _ (omega (arith, number)) at.4 (on nth _ word)) in
      (at.3, ap (λ (y : Outward). referred v y.to) (sym same) ∙ at.7, at.8)

  stored_on : (nth place : ℕ) (o : Outward) → IsWord w nth place o → o.word ≡ words.Phase phase_words.Commit → IsStored w told o.to → IsStored v all o.to
  stored_on nth place o word commit is =
      let at = same_object nth place o is.object word commit is.refers in
      record {
        object = at.0;
        refers = at.1;
        line = subst (λ (name : List ℕ). Stands (lines.State name shown.Applied) (lines_of all)) (sym at.2) (stands_on _ is.line);
      }

  -- where the answer was given before
  old_answer : AreStored w told → (nth place reply : ℕ) (o : Outward) (answer : Said) → IsWord v nth place o → o.word ≡ words.Phase phase_words.Commit
      → HasContent w reply (contents.Reply (nth + 1) answer) → IsStored v all o.to
  old_answer are nth place reply o answer word commit was =
      let asked = k.words.asked reply (nth + 1) was.0 answer was.1 was.2 in
      let number = asked.4 in
      let content : contents.Request asked.1 asked.2 ≡ contents.Request place o =
      one_content v asked.0 nth _ _ (omega (arith, number)) (on asked.0 _ asked.3) word in
      let before : IsWord w nth place o =
      subst (λ (c : Content). HasContent w nth c) content (subst (λ (i : ℕ). IsWord w i asked.1 asked.2) (omega (arith, number)) asked.3) in
      stored_on nth place o before commit (are nth place reply o answer before commit was)

-- by the answer to a word that is obeyed now
module _ (w : World) (told more : List Told) (k : Known w told) (nth place : ℕ) (o : Outward) (word : IsWord w nth place o)
    (later : Known (obeys (nth + 1) o w).world (told ++ more)) where
  abbrev v : World
  v = (obeys (nth + 1) o w).world

  new_answer : o.word ≡ words.Phase phase_words.Commit → IsStored v (told ++ more) o.to
  new_answer commit =
      let x = is_there (referred w o.to) (k.words.named place o (nth, word)) in
      let at = stored w told k nth place o x.0 word commit x.1 in
      let y = same_object w v told more k later (obeys_answers (nth + 1) o w).on nth place o x.0 word commit x.1 in
      let named : thing v x.0.name ≡ Some _ = (obeys_same (nth + 1) o w).names x.0.name _ (referred_named w told k o.to x.0 x.1) in
      record {
        object = y.0;
        refers = y.1;
        line = subst (λ (name : List ℕ). Stands (lines.State name shown.Applied) (lines_of (told ++ more))) (sym y.2)
            ((later.resources x.0.name x.0.key at.resource named at.there).applied.1 at.so);
      }

  obeyed_step : AreStored w told → AreStored v (told ++ more)
  obeyed_step are i p reply q answer sent commit replied = elim ((obeys_answers (nth + 1) o w).back reply (i + 1) answer replied) [
    | inl old ↦ old_answer w v told more k later (obeys_answers (nth + 1) o w).on are i p reply q answer sent commit old
    | inr number ↦
        let same : q ≡ o = one_word (one_content v i nth _ _ (omega (arith, number)) sent ((obeys_answers (nth + 1) o w).on nth _ word)) in
        subst (λ (y : Outward). IsStored v (told ++ more) y.to) (sym same) (new_answer (ap (λ (y : Outward). y.word) (sym same) ∙ commit))
  ]

stored_step : (w : World) (d : Done) (told : List Told) → Known w told → Known d.world (told ++ d.lines) → MessagesStep w d → AreStored w told
    → AreStored d.world (told ++ d.lines)
stored_step w _ told k later (goes d go) are = λ nth place reply o answer word commit replied.
    old_answer w d.world told d.lines k later go.on are nth place reply o answer word commit (go.back reply _ refl replied)
stored_step w _ told k later (obeys_one nth place o word) are = obeyed_step w told (obeys (nth + 1) o w).lines k nth place o word later are

-- ---- any number of steps

module _ (keeps : StepsStayKnown) where
  stored_so_far : (w : World) (d : Done) → GoesOn w d → (told : List Told) → Known w told → AreStored w told
      → Known d.world (told ++ d.lines) × AreStored d.world (told ++ d.lines)
  stored_so_far w d still told k are = (subst (Known w) (sym (append-nil told)) k, subst (AreStored w) (sym (append-nil told)) are)
  stored_so_far w d (and_further between last before step) told k are =
      let first = stored_so_far w between before told k are in
      let later = goes_known keeps between.world last step (told ++ between.lines) first.0 in
      let now = stored_step between.world last (told ++ between.lines) first.0 later (messages_step between.world last step) first.1 in
      let same = append_assoc told between.lines last.lines in
      (subst (Known last.world) same later, subst (AreStored last.world) same now)

  pub stored_reached : (w : World) (told : List Told) → Reaches w told → AreStored w told
  stored_reached w told nothing = λ nth place reply o answer word commit replied. absurd (none word.1)
    where
      none : {m : Message} → None ≡ Some m → ⊥
      none e = cc
  stored_reached w told (further before earlier event deed reached few fit is limit) =
      (stored_so_far before (carried_out deed before) (deeds_go event deed before (reached_delivered before earlier reached) few fit is limit) earlier
      (known_reached keeps before earlier reached) (stored_reached before earlier reached)).1

  pub answered_are_stored : AnsweredCommitsAreStored
  answered_are_stored w told nth place reply o m answer r reached word commit at says refers =
      let k = known_reached keeps w told reached in
      let is = stored_reached w told reached nth place reply o answer word commit (m, at, says) in
      let here = resource_of w told k o.to r refers in
      let same : is.object ≡ r = inner (sym is.refers ∙ refers) in
      record {
        resource = here.0;
        there = here.1;
        so = here.2.applied.0 (subst (λ (x : NamedKey). Stands (lines.State x.name shown.Applied) (lines_of told)) same is.line);
      }
