-- Words go out, one after another, and replies.
use Rattle.std.proofs.Common.{◌≡◌, ℕ, ◌<◌, List, [], ◌∷◌, ◌++◌, length, drop, slice_get, Some, None, Result, Ok, Err, refl, sym, ap, subst, ◌∙◌, arith, length-append}
use Rattle.std.specs.Option.{option_map}
use Rattle.ots_model.specs.declared.tree.Outward.{Outward}
use Rattle.ots_world.specs.declared.fault.WorldFault.{WorldFault}
use Rattle.coordinator.specs.declared.said.Said.{Said}
use Rattle.nodes_world.specs.Told.{Back, sent, spelled}
use Rattle.nodes_world.specs.World.{NamedKey, World, next_message, referred}
use Rattle.nodes_world.specs.Happenings.{Done, replies, requests, requests_all}
use Rattle.nodes_parts.specs.Sending.{CannotSend}
use Rattle.nodes_state.specs.Does.{BreaksOff, Does}
use Rattle.nodes_state.specs.Telling.{Tells}
use Rattle.nodes_state.proofs.Doing.{Grows, naming_none, naming_told, one_told, part_all, part_none}
use Rattle.nodes_state.proofs.Failing.{cannot_send, does_fail}
use Rattle.nodes_state.proofs.Progress.{IsDoing, doing_breaks, doing_ends, doing_goes_on}

-- ---- the reply to a request

reply_more : (request : ℕ) (said : Said) (w : World) → length w.messages < length (replies request said w).world.messages
unfolding replies
reply_more request said w = omega (arith, length-append w.messages)

pub reply_told : (request number : ℕ) (said : Said) (w : World) (before after : List ℕ) → number ≡ next_message w
    → after ≡ before ++ spelled (Back number request said) → Tells (replies request said w).lines before after
unfolding replies
reply_told request number said w before after e t =
    one_told (Back (next_message w) request said) before after (t ∙ ap (λ n. before ++ spelled (Back n request said)) e)

pub reply_fails : (request number : ℕ) (said : Said) (w v : World) (before after : List ℕ) (result : Result (Unit {0}) WorldFault) (fault : WorldFault)
    → result ≡ Err fault → CannotSend w.messages fault → number ≡ next_message w → after ≡ before ++ spelled (Back number request said)
    → Does (replies request said w) v before after result
reply_fails request number said w v before after result fault e refused n t =
    let d = replies request said w in
    does_fail d v before after result fault e
    (cannot_send d w.messages fault before after refused (reply_more request said w) (part_all d.lines before after (reply_told request number said w before after n t)))

-- ---- a word

request_more : (place : ℕ) (o : Outward) (w : World) → length w.messages < length (requests place o w).world.messages
unfolding requests
request_more place o w = omega (arith, length-append w.messages)

pub request_fails : (place : ℕ) (o : Outward) (w v : World) (before : List ℕ) (result : Result (Unit {0}) WorldFault) (fault : WorldFault)
    → result ≡ Err fault → CannotSend w.messages fault → Does (requests place o w) v before before result
request_fails place o w v before result fault e refused =
    let d = requests place o w in
    does_fail d v before before result fault e (cannot_send d w.messages fault before before refused (request_more place o w) (part_none d.lines before before refl))

pub request_told : (place number : ℕ) (o : Outward) (w : World) (n : NamedKey) (before after : List ℕ) → referred w o.to ≡ Some n → number ≡ next_message w
    → after ≡ before ++ spelled (sent number o.word n.name) → Tells (requests place o w).lines before after
unfolding requests
request_told place number o w n before after there e t =
    naming_told {E = WorldFault} (sent (next_message w) o.word) (option_map (λ (r : NamedKey). r.name) (referred w o.to)) n.name before after (Ok tt)
    (ap (λ x. option_map (λ (r : NamedKey). r.name) x) there) (t ∙ ap (λ k. before ++ spelled (sent k o.word n.name)) e)

pub request_untold : (place : ℕ) (o : Outward) (w : World) (before : List ℕ) → referred w o.to ≡ None → Tells (requests place o w).lines before before
unfolding requests
request_untold place o w before there =
    naming_none (sent (next_message w) o.word) (option_map (λ (r : NamedKey). r.name) (referred w o.to)) before before
    (ap (λ x. option_map (λ (r : NamedKey). r.name) x) there) refl

-- ---- words, one after another

request_grows : (place : ℕ) (o : Outward) → Grows (requests place o)
request_grows place o = λ w. let more = request_more place o w in omega arith

requests_grow : (place : ℕ) (words : List Outward) → Grows (requests_all place words)
requests_grow place [] = λ w. omega arith
requests_grow place (o ∷ words) = λ w.
    let first = request_grows place o w in
    let others = requests_grow place words (requests place o w).world in
    omega arith

-- the first of some, and the others
first_word : (words : List Outward) (o : Outward) → slice_get words 0 ≡ Some o → words ≡ o ∷ drop 1 words
first_word [] o e = absurd cc
first_word (x ∷ words) o e = let same : x ≡ o = cc in ap (λ (y : Outward). y ∷ words) same

no_word : (words : List Outward) → slice_get words 0 ≡ None → words ≡ []
no_word [] e = refl
no_word (x ∷ words) e = absurd cc

module _ (total : Done) (before : List ℕ) (place : ℕ) (words : List Outward) (w : World) (now : List ℕ) where
  abbrev Goes : List Outward → Type 0
  Goes xs = IsDoing total before (requests_all place xs w) now

  pub words_go_on : (rest : List Outward) (o : Outward) (v : World) (later : List ℕ) → Goes words → slice_get words 0 ≡ Some o → rest ≡ drop 1 words
      → Does (requests place o w) v now later (Ok tt) → IsDoing total before (requests_all place rest v) later
  words_go_on rest o v later going first more d =
      subst (λ xs. IsDoing total before (requests_all place xs v) later) (sym more)
      (doing_goes_on total (requests place o w) (requests_all place (drop 1 words)) v before now later (subst Goes (first_word words o first) going) d.0 d.1)

  pub words_break : (o : Outward) (v : World) (later : List ℕ) (result : Result (Unit {0}) WorldFault) (fault : WorldFault) → result ≡ Err fault → Goes words
      → slice_get words 0 ≡ Some o → BreaksOff (requests place o w) fault now later → Does total v before later result
  words_break o v later result fault e going first b =
      does_fail total v before later result fault e
      (doing_breaks total (requests place o w) (requests_all place (drop 1 words)) fault before now later (subst Goes (first_word words o first) going)
      (requests_grow place (drop 1 words)) b)

  pub words_end : Goes words → slice_get words 0 ≡ None → Does total w before now (Ok tt)
  words_end going none = doing_ends total w before now (subst Goes (no_word words none) going)
