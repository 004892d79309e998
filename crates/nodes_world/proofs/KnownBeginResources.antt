-- What is known of resources once a node has made a top-level transaction.
use Rattle.std.proofs.Common.{◌≡◌, inl, inr, ℕ, List, [], ◌∷◌, ◌++◌, slice_get, Some, None, sym, subst, ◌∙◌}
use Rattle.ior_refs.specs.declared.key.ObjectKey.{ObjectKey}
use Rattle.ots_model.specs.Safe.{Stands}
use Rattle.ots_model.specs.declared.completion.Vote.{Vote}
use Rattle.ots_model.specs.declared.completion.Word.{Word as Phase}
use Rattle.ots_model.specs.declared.line.Line.{Line}
use Rattle.ots_model.specs.declared.line.Line.TheVariants as lines
use Rattle.ots_model.specs.declared.line.ResourceState.{ResourceState}
use Rattle.coordinator.specs.Node.{Node}
use Rattle.nodes_world.specs.declared.thing.Thing.TheVariants as things
use Rattle.nodes_world.specs.Told as tell
use Rattle.nodes_world.specs.Told.{Told}
use Rattle.nodes_world.specs.World.{World, Seat, OfNode, FlatResource, referred, resource_at, thing, with_name, with_seat}
use Rattle.nodes_world.specs.Agreement.{StatesFollow}
use Rattle.nodes_world.specs.AgreementInside.{Known, HasAnswered, ResourceIsKnown, ResourcesAreKnown}
use Rattle.nodes_world.proofs.KnownLines.{AreAmong, lines_of}
use Rattle.nodes_world.proofs.KnownFrames.{newest_phase}
use Rattle.nodes_world.proofs.KnownRequests.{follows_kept, unvoted_kept, voted_kept}
use Rattle.nodes_world.proofs.KnownMakings.{thing_cases}
use Rattle.nodes_world.proofs.KnownBeginSeats.{refers_begun, resources_begun}

module _ (w : World) (place : ℕ) (name : List ℕ) (key : ObjectKey) (s : Seat) (n c : Node) (told : List Told)
    (there : slice_get w.seats place ≡ Some s) (up : s.server ≡ OfNode (Some n)) (free : thing w name ≡ None) (k : Known w told) where
  abbrev left : Seat
  left = record s { server = OfNode (Some c) }

  abbrev v : World
  v = with_name name (things.Transaction key) (with_seat place left w)

  abbrev line : Line
  line = lines.Top name s.name

  abbrev h : List Line
  h = lines_of told

  refers : (to : List ℕ) → referred v to ≡ referred w to
  refers to = refers_begun w place name key s n c told there up free k to

  found : (r : ObjectKey) → resource_at v r ≡ resource_at w r
  found r = resources_begun w place name key s n c told there up free k r

  on : AreAmong h (line ∷ h)
  on l stands = inr stands

  answered_on : (g : List ℕ) (vote : Vote) → HasAnswered w g vote → HasAnswered v g vote
  answered_on g vote (nth, from, reply, o, r, m, word, prepare, leads, named, at, says) =
      (nth, from, reply, o, r, m, word, prepare, refers o.to ∙ leads, named, at, says)

  answered_back : (g : List ℕ) (vote : Vote) → HasAnswered v g vote → HasAnswered w g vote
  answered_back g vote (nth, from, reply, o, r, m, word, prepare, leads, named, at, says) =
      (nth, from, reply, o, r, m, word, prepare, sym (refers o.to) ∙ leads, named, at, says)

  state_back : (g : List ℕ) (shown : ResourceState) → Stands (lines.State g shown) (line ∷ h) → Stands (lines.State g shown) h
  state_back g shown (inl e) = absurd cc
  state_back g shown (inr stands) = stands

  send_back : (number : ℕ) (phase : Phase) (g : List ℕ) → Stands (lines.Send number phase g) (line ∷ h) → Stands (lines.Send number phase g) h
  send_back number phase g (inl e) = absurd cc
  send_back number phase g (inr stands) = stands

  resource_begun : (g : List ℕ) (r : FlatResource) → ResourceIsKnown w h g r → ResourceIsKnown v (line ∷ h) g r
  resource_begun g r old = record {
    commit = λ a. voted_kept r.state g _ _ on (old.commit (answered_back g _ a));
    read_only = λ a. old.read_only (answered_back g _ a);
    rollback = λ a. old.rollback (answered_back g _ a);
    none = λ no. unvoted_kept r.state g _ _ on (old.none (λ vote a. no vote (answered_on g vote a)));
    applied = (λ x. old.applied.0 (state_back g _ x), λ e. on _ (old.applied.1 e));
    undone = (λ x. old.undone.0 (state_back g _ x), λ e. on _ (old.undone.1 e));
    follows = follows_kept r.state g _ _ on
        (λ undone sent. (subst (λ x. StatesFollow x g h) undone old.follows) (sent.0, send_back _ _ _ sent.1)) old.follows;
  }

  resource_was : (g : List ℕ) (r : ObjectKey) → thing v g ≡ Some (things.Resource r) → thing w g ≡ Some (things.Resource r)
  resource_was g r is = elim (thing_cases w.names name (things.Transaction key) g (things.Resource r) is) [
    | inl was ↦ was
    | inr new ↦ absurd (no new.1)
  ]
    where
      no : things.Transaction key ≡ things.Resource r → ⊥
      no e = cc

  pub all_resources_begun : ResourcesAreKnown v (lines_of (told ++ tell.Known line ∷ []))
  all_resources_begun = subst (ResourcesAreKnown v) (sym (newest_phase told line))
      (λ g of r named at. resource_begun g r (k.resources g of r (resource_was g of named) (sym (found of) ∙ at)))
