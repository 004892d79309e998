-- Service contexts that were written are found again.
use Rattle.std.proofs.Common.{◌≡◌, ℕ, ◌+◌, eqb, Option, Some, None, List, [], ◌∷◌, ◌++◌, length, refl, sym, ap, ◌∙◌, find}
use Rattle.std.specs.Option.{option_map, option_or}
use Rattle.std.proofs.lemmas.List.{append-nil}
use Rattle.std.proofs.lemmas.List.Folds.{find-append}
use Rattle.cdr_values.specs.declared.order.Order.TheVariants.{Big}
use Rattle.cdr_values.specs.Again.{AllFit, standing, EncapsulationsAreReadAgain}
use Rattle.cdr_values.specs.Encapsulation.{begun, inside, opened}
use Rattle.cdr_values.specs.Value.{ULongLong}
use Rattle.cdr_values.specs.Values.{canonical_all, with_values}
use Rattle.giop_frames.specs.declared.message.ServiceContext.{ServiceContext}
use Rattle.ots_model.specs.declared.service.RetryKey.{RetryKey}
use Rattle.ots_context.specs.Finding.{first_context}
use Rattle.ots_calls.specs.Retry.{IsRetry, first_retry}
use Rattle.ots_calls.specs.Writing.{retry_octets, service_context}
use Rattle.ots_calls.proofs.Requests.{opened_found}

-- a retry key that was written is in its octets
pub retry_again : EncapsulationsAreReadAgain → (key : RetryKey) (octets : List ℕ) → AllFit (ULongLong key.client ∷ ULongLong key.number ∷ []) → octets ≡ retry_octets key → IsRetry key octets
unfolding retry_octets
retry_again again key octets fit is =
    let values = ULongLong key.client ∷ ULongLong key.number ∷ [] in
    let front = canonical_all Big 1 values in
    let h = again Big values [] fit in
    let same : (with_values (begun Big) values).octets ++ [] ≡ octets = append-nil (with_values (begun Big) values).octets ∙ sym is in
    record {
      reader = inside Big (front ++ []);
      behind = standing Big (1 + length front) [];
      opened = opened_found octets (inside Big (front ++ [])) (ap opened (sym same) ∙ h.0);
      stand = h.1;
      nothing = refl;
    }

or_none : {A : Type 0} (x : Option A) → option_or x None ≡ x
or_none None = refl
or_none (Some y) = refl

-- the context of a retry key is not that of a transaction
pub not_first : (octets : List ℕ) (contexts : List ServiceContext) → first_context (contexts ++ service_context 1330926080 octets ∷ []) ≡ first_context contexts
not_first octets contexts =
    ap (option_map (λ (x : ServiceContext). x.bytes)) (find-append (λ (x : ServiceContext). eqb x.id 0) contexts (service_context 1330926080 octets ∷ []) ∙ or_none (find (λ (x : ServiceContext). eqb x.id 0) contexts))

found_none : (x : Option ServiceContext) → option_map (λ (y : ServiceContext). y.bytes) x ≡ None → x ≡ None
found_none None e = refl
found_none (Some y) e = absurd cc

-- it is the first with a retry key, where there was none
pub then_first : (octets : List ℕ) (contexts : List ServiceContext) → first_retry contexts ≡ None → first_retry (contexts ++ service_context 1330926080 octets ∷ []) ≡ Some octets
then_first octets contexts none =
    let before = found_none (find (λ (x : ServiceContext). eqb x.id 1330926080) contexts) none in
    ap (option_map (λ (x : ServiceContext). x.bytes)) (find-append (λ (x : ServiceContext). eqb x.id 1330926080) contexts (service_context 1330926080 octets ∷ []) ∙ ap (λ (x : Option ServiceContext). option_or x (Some (service_context 1330926080 octets))) before)
