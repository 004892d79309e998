-- What each call has done, where its parts have.
use Rattle.std.proofs.Common.{◌≡◌, ◌⊎◌, ◌∙◌, refl, sym, subst, inr, ℕ, Bool, List, Option, Result, Ok, Err}
use Rattle.ior_refs.specs.declared.key.ObjectKey.{ObjectKey}
use Rattle.ots_model.specs.declared.tree.Heard.{Heard}
use Rattle.ots_outside.specs.Disk.{DiskState}
use Rattle.resource_end.specs.Calls as calls
use Rattle.resource_end.specs.Journaling.{EndState, IsCalled, IsCalledOrStarved, IsMadeOrUnmade, afresh}
use Rattle.resource_end.specs.Limits.{resource_kind}
use Rattle.resource_end.specs.OnRecord.{IsOnRecord}
use Rattle.resource_end.specs.declared.fault.EndFault.{EndFault}
use Rattle.resource_end.specs.declared.fault.EndFault.TheVariants as faults
use Rattle.resource_end.specs.declared.state.Word.{Word}
use Rattle.end_room.specs.Own.{HasLearnt, HasPut, IsKept, IsNew, IsTold, IsUnkept, Keeps, Names, OwnState, UnmakesAs}
use Rattle.end_room.specs.Place.{EndPlace}

module _ {D : Type 0} (wants : Bool) (told : D → Option DiskState) (counts : D → ℕ) (e f : EndState D) (given : Names)
    (place : EndPlace) (before : OwnState D) (is : record { end = e; names = given; place = place } ≡ before) where
  pub has_put : (key : ObjectKey) (cell value : ℕ) (said : Result (Unit {0}) EndFault) → IsCalledOrStarved told e f said (calls.put key cell value)
      → IsKept wants told counts e f said → HasPut wants told counts key cell value before said (record { end = f; names = given; place = place })
  has_put key cell value said called kept =
      subst (λ b. HasPut wants told counts key cell value b said (record { end = f; names = given; place = place })) is
      (record { called = called; kept = kept; names = refl })

  pub is_told : (word : Word) (key : ObjectKey) (said : Result Heard EndFault) (after : OwnState D) → after.end ≡ f
      → IsCalled told (afresh e) f said (calls.wanted word key) (calls.told word key) → IsKept wants told counts e f said
      → Keeps f.end given after.names → IsTold wants told counts word key before said after
  is_told word key said after end called kept keeps =
      subst (λ b. IsTold wants told counts word key b said after) is (record {
        called = subst (λ x. IsCalled told (afresh e) x said (calls.wanted word key) (calls.told word key)) (sym end) called;
        kept = subst (λ x. IsKept wants told counts e x said) (sym end) kept;
        names = subst (λ (x : EndState D). Keeps x.end given after.names) (sym end) keeps;
      })

  pub has_learnt : (key : ObjectKey) (heard : Heard) (said : Result (Unit {0}) EndFault) (after : OwnState D) → after.end ≡ f
      → IsCalled told (afresh e) f said (calls.wanted_by_answer heard key) (calls.learn key heard) → IsKept wants told counts e f said
      → Keeps f.end given after.names → HasLearnt wants told counts key heard before said after
  has_learnt key heard said after end called kept keeps =
      subst (λ b. HasLearnt wants told counts key heard b said after) is (record {
        called = subst (λ x. IsCalled told (afresh e) x said (calls.wanted_by_answer heard key) (calls.learn key heard)) (sym end) called;
        kept = subst (λ x. IsKept wants told counts e x said) (sym end) kept;
        names = subst (λ (x : EndState D). Keeps x.end given after.names) (sym end) keeps;
      })

module _ {D : Type 0} (e : EndState D) (given : Names) (place : EndPlace) (before : OwnState D)
    (is : record { end = e; names = given; place = place } ≡ before) where
  pub is_unkept : (tid : List ℕ) (key : ObjectKey) (made later last : EndState D) (names : Names) (other : EndPlace)
      → IsMadeOrUnmade resource_kind e made (Ok key) → later ≡ made → names ≡ given → last ≡ record later { end = calls.unmake key later.end }
      → (IsOnRecord e → IsOnRecord made) → (IsOnRecord later → IsOnRecord last)
      → IsNew tid before (Err faults.Memory) (record { end = last; names = names; place = other })
      ⊎ IsUnkept before (Err faults.Memory) (record { end = last; names = names; place = other })
  is_unkept tid key made later last names other fresh same named unmade stays stays_too =
      let T : OwnState D → Type 0 = λ b. IsUnkept b (Err faults.Memory) (record { end = last; names = names; place = other }) in
      inr (subst T is (record {
        key = key;
        midway = made;
        made = fresh;
        unmade = subst (λ (x : EndState D). last ≡ record x { end = calls.unmake key x.end }) same unmade;
        stays = λ on. stays_too (subst (λ x. IsOnRecord x) (sym same) (stays on));
        said_is = refl;
        names = named;
      }))

  pub unmakes : (key : ObjectKey) (f : EndState D) (after : OwnState D) → f ≡ record e { end = calls.unmake key e.end }
      → (IsOnRecord e → IsOnRecord f) → after.end ≡ f → Keeps f.end given after.names → UnmakesAs key before after
  unmakes key f after unmade stays end keeps =
      subst (λ b. UnmakesAs key b after) is (record {
        unmade = end ∙ unmade;
        stays = λ on. subst (λ x. IsOnRecord x) (sym end) (stays on);
        names = subst (λ (x : EndState D). Keeps x.end given after.names) (sym end) keeps;
      })
