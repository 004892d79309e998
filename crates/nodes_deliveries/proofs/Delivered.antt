-- A message that is delivered.
use Rattle.std.proofs.Common.{◌≡◌, ℕ, zero, suc, ◌+◌, ◌<◌, Bool, true, List, [], ◌∷◌, length, slice_get, slice_set, Option, Some, None, Result, Ok, refl, sym, ap, subst, ◌∙◌}
use Rattle.std.specs.Option.{option_and_then}
use Rattle.ots_model.specs.declared.line.Line.TheVariants as lines
use Rattle.ots_world.specs.declared.fault.WorldFault.{WorldFault}
use Rattle.ior_refs.specs.declared.key.ObjectKey.{ObjectKey}
use Rattle.ots_model.specs.declared.tree.Outward.{Outward}
use Rattle.coordinator.specs.declared.event.Act.{Act}
use Rattle.coordinator.specs.declared.said.Said.{Said}
use Rattle.nodes_world.specs.declared.message.Content.{Content}
use Rattle.nodes_world.specs.declared.message.Content.TheVariants as contents
use Rattle.nodes_world.specs.declared.message.Message.{Message}
use Rattle.nodes_world.specs.Clients.{acts_at, answer_only}
use Rattle.nodes_world.specs.Deliveries.{comes, comes_to, delivers, hears_reply, reaches, receiver_of}
use Rattle.nodes_world.specs.Ends.{obeys, obeys_as}
use Rattle.nodes_world.specs.Happenings.{Done, changes, nothing, tells, ◌▹◌}
use Rattle.nodes_world.specs.Told.{Known}
use Rattle.nodes_world.specs.World.{NamedKey, World, is_up, referred, resource_at, with_message}
use Rattle.nodes_parts.specs.Sending.{marked_delivered}
use Rattle.nodes_state.specs.Does.{Does}
use Rattle.nodes_state.specs.Shown.{shown}
use Rattle.nodes_state.specs.Telling.{Tells}
use Rattle.nodes_state.specs.declared.state.State.{State}
use Rattle.nodes_state.proofs.Doing.{does_then, tells_none}
use Rattle.nodes_deliveries.specs.Arriving.{SaysAt, led_at, led_by, receiver_at}
use Rattle.nodes_ready.proofs.Growing.{KeepsCalls, calls_stay, one_marked}
use Rattle.nodes_ready.proofs.Keeping.{there_at}

-- ---- what reaches it

reaches_node : (number : ℕ) (to : ObjectKey) (act : Act) (w : World) → reaches number (contents.Call to act) w ≡ acts_at number to act answer_only w
unfolding reaches
reaches_node number to act w = refl

reaches_named : (number from : ℕ) (o : Outward) (w : World) → reaches number (contents.Request from o) w ≡ obeys number o w
unfolding reaches
reaches_named number from o w = refl

reaches_sender : (number request : ℕ) (said : Said) (w : World) → reaches number (contents.Reply request said) w ≡ hears_reply request said w
unfolding reaches
reaches_sender number request said w = refl

abbrev obeys_by : ℕ → Outward → World → Option NamedKey → Done
obeys_by number o w found = elim found as (λ _. Done) [ Some named ↦ obeys_as (resource_at w named.key) number named o.word w | None ↦ nothing w ]

obeys_named : (number : ℕ) (o : Outward) (w : World) (found : Option NamedKey) → referred w o.to ≡ found → obeys number o w ≡ obeys_by number o w found
unfolding obeys
obeys_named number o w found is = ap (obeys_by number o w) is

-- ---- it comes to one that is up, or is dropped

module _ (w : World) (receiver number : ℕ) (content : Content) where
  abbrev comes_if : Bool → Done
  comes_if up = comes_to up number content w

  pub came : (v : World) (before mid after : List ℕ) (result : Result (Unit {0}) WorldFault) → is_up w receiver ≡ true
      → Tells (Known (lines.Recv number) ∷ []) before mid → Does (reaches number content w) v mid after result
      → Does (comes_to (is_up w receiver) number content w) v before after result
  came v before mid after result up told does =
      subst (λ (b : Bool). Does (comes_if b) v before after result) (sym up)
      (does_then (tells (Known (lines.Recv number) ∷ []) w) (reaches number content) w v before mid after result refl told does)

-- ---- it is marked, and comes to its receiver

set_there : {A : Type 0} (xs : List A) (i : ℕ) (m x : A) → slice_get xs i ≡ Some m → slice_get (slice_set xs i x) i ≡ Some x
set_there [] i m x e = absurd cc
set_there (y ∷ xs) zero m x e = refl
set_there (y ∷ xs) (suc i) m x e = set_there xs i m x e

marked : (messages : List Message) (place : ℕ) (m : Message) → slice_get messages place ≡ Some m
    → marked_delivered place messages ≡ slice_set messages place (record m { delivered = true })
marked messages place m there =
    ap (λ (o : Option Message). elim o as (λ _. List Message) [ Some x ↦ slice_set messages place (record x { delivered = true }) | None ↦ messages ]) there

pub marked_keeps : (messages : List Message) (place : ℕ) → KeepsCalls messages (marked_delivered place messages)
marked_keeps messages place = by_message (slice_get messages place) refl
  where
    by_message : (o : Option Message) → slice_get messages place ≡ o
        → KeepsCalls messages (elim o as (λ _. List Message) [ Some x ↦ slice_set messages place (record x { delivered = true }) | None ↦ messages ])
    by_message (Some m) there = one_marked messages place m (record m { delivered = true }) there refl
    by_message None there = calls_stay messages

-- and leads where it led
pub led_stays : (s : State) (place : ℕ) (now : List Message) → now ≡ marked_delivered place s.messages
    → led_at s place ≡ led_at (record s { messages = now }) place
led_stays s place now is = by_message (slice_get s.messages place) refl ∙ ap led_in (sym is)
  where
    leads : Option Message → Option NamedKey
    leads o = option_and_then (λ (m : Message). led_by s.names.referred m.content) o

    led_in : List Message → Option NamedKey
    led_in messages = leads (slice_get messages place)

    by_message : (o : Option Message) → slice_get s.messages place ≡ o
        → leads o ≡ led_in (elim o as (λ _. List Message) [ Some x ↦ slice_set s.messages place (record x { delivered = true }) | None ↦ s.messages ])
    by_message (Some m) there = ap leads (sym (set_there s.messages place m (record m { delivered = true }) there))
    by_message None there = ap leads (sym there)

delivers_there : (place : ℕ) (w : World) (m : Message) → slice_get w.messages place ≡ Some m
    → delivers place w ≡ (changes (with_message place (record m { delivered = true }) w) ▹ comes (receiver_of w m.content) (place + 1) m.content)
unfolding delivers
delivers_there place w m there =
    ap (λ (o : Option Message). elim o as (λ _. Done) [
      | Some x ↦ changes (with_message place (record x { delivered = true }) w) ▹ comes (receiver_of w x.content) (place + 1) x.content
      | None ↦ nothing w
    ]) there

module _ (s : State) (place : ℕ) (w : World) (before after : List ℕ) (result : Result (Unit {0}) WorldFault) (less : place < length s.messages)
    (now : List Message) (is_marked : now ≡ marked_delivered place s.messages) where
  abbrev marked_world : World
  marked_world = shown (record s { messages = now })

  by_receiver : (o : Option ℕ) → receiver_at (shown s) place ≡ o
      → ((content : Content) → SaysAt marked_world place content → Does (comes o (place + 1) content marked_world) w before after result)
      → Does (delivers place (shown s)) w before after result
  by_receiver o to does =
      let there = there_at s.messages place less in
      let m : Message = there.0 in
      let v : World = with_message place (record m { delivered = true }) (shown s) in
      let messages = is_marked ∙ marked s.messages place m there.1 in
      let world : marked_world ≡ v = ap (λ (ms : List Message). record (shown s) { messages = ms }) messages in
      let says : SaysAt marked_world place m.content = record {
        message = record m { delivered = true };
        there = ap (λ (ms : List Message). slice_get ms place) messages ∙ set_there s.messages place m (record m { delivered = true }) there.1;
        says = refl;
      } in
      let is : receiver_of (shown s) m.content ≡ o = sym (ap (λ (x : Option Message). option_and_then (λ (y : Message). receiver_of (shown s) y.content) x) there.1) ∙ to in
      subst (λ (d : Done). Does d w before after result) (sym (delivers_there place (shown s) m there.1))
      (does_then (changes v) (comes (receiver_of (shown s) m.content) (place + 1) m.content) marked_world w before before after result world (tells_none before)
      (subst (λ (x : Option ℕ). Does (comes x (place + 1) m.content marked_world) w before after result) (sym is) (does m.content says)))

  pub delivered_to : (receiver : ℕ) → receiver_at (shown s) place ≡ Some receiver
      → ((content : Content) → SaysAt marked_world place content
      → Does (comes_to (is_up marked_world receiver) (place + 1) content marked_world) w before after result)
      → Does (delivers place (shown s)) w before after result
  delivered_to receiver to does = by_receiver (Some receiver) to does

pub delivered_nowhere : (s : State) (place : ℕ) (before : List ℕ) (now : List Message) → place < length s.messages → now ≡ marked_delivered place s.messages
    → receiver_at (shown s) place ≡ None → Does (delivers place (shown s)) (shown (record s { messages = now })) before before (Ok tt)
delivered_nowhere s place before now less is_marked to =
    by_receiver s place (shown (record s { messages = now })) before before (Ok tt) less now is_marked None to (λ content says. (refl, tells_none before))

-- ---- it reaches its receiver

module _ (w v : World) (place number : ℕ) (content : Content) (m : Message) (before after : List ℕ) (result : Result (Unit {0}) WorldFault)
    (says : SaysAt w place content) (there : slice_get w.messages place ≡ Some m) where
  as_said : (c : Content) → m.content ≡ c → Does (reaches number c w) v before after result → Does (reaches number content w) v before after result
  as_said c is does =
      let same : says.message ≡ m = cc in
      let e : c ≡ content = sym is ∙ ap (λ (x : Message). x.content) (sym same) ∙ says.says in
      subst (λ x. Does (reaches number x w) v before after result) e does

  pub reached_node : (to : ObjectKey) (act : Act) → m.content ≡ contents.Call to act → Does (acts_at number to act answer_only w) v before after result
      → Does (reaches number content w) v before after result
  reached_node to act is does =
      as_said (contents.Call to act) is (subst (λ (d : Done). Does d v before after result) (sym (reaches_node number to act w)) does)

  pub reached_resource : (from : ℕ) (o : Outward) (named : NamedKey) → m.content ≡ contents.Request from o → referred w o.to ≡ Some named
      → Does (obeys_as (resource_at w named.key) number named o.word w) v before after result → Does (reaches number content w) v before after result
  reached_resource from o named is found does =
      as_said (contents.Request from o) is
      (subst (λ (d : Done). Does d v before after result) (sym (reaches_named number from o w ∙ obeys_named number o w (Some named) found)) does)

  pub reached_nobody : (from : ℕ) (o : Outward) → m.content ≡ contents.Request from o → referred w o.to ≡ None → Does (nothing w) v before after result
      → Does (reaches number content w) v before after result
  reached_nobody from o is none does =
      as_said (contents.Request from o) is
      (subst (λ (d : Done). Does d v before after result) (sym (reaches_named number from o w ∙ obeys_named number o w None none)) does)

  pub reached_sender : (request : ℕ) (said : Said) → m.content ≡ contents.Reply request said → Does (hears_reply request said w) v before after result
      → Does (reaches number content w) v before after result
  reached_sender request said is does =
      as_said (contents.Reply request said) is (subst (λ (d : Done). Does d v before after result) (sym (reaches_sender number request said w)) does)
