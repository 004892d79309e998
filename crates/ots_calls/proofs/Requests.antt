-- Requests are read exactly where they are calls.
use Rattle.std.proofs.Common.{◌≡◌, ℕ, Bool, true, false, cond, eqb, List, [], ◌∷◌, length, Option, Some, None, Ok, Err, refl, sym, ap, subst, ◌∙◌, arith}
use Rattle.cdr_values.specs.Again.{standing}
use Rattle.cdr_values.specs.Encapsulation.{IsEncapsulation, opened, inside, order_octet}
use Rattle.cdr_values.specs.Laws.{ReadingLaws}
use Rattle.cdr_values.specs.Reading.{Reading, ◌>>=◌, ulonglong_at}
use Rattle.cdr_values.specs.declared.fault.CdrFault.{CdrFault}
use Rattle.cdr_values.specs.declared.fault.CdrFault.TheVariants.{BadOrder}
use Rattle.cdr_values.specs.declared.order.Order.{Order}
use Rattle.cdr_values.specs.declared.order.Order.TheVariants.{Big, Little}
use Rattle.giop_frames.specs.declared.message.Request.{Request}
use Rattle.giop_frames.specs.declared.message.Target.{Target}
use Rattle.giop_frames.specs.declared.message.Target.TheVariants as targets
use Rattle.ior_refs.specs.Laws.{ReferencesAreReadExactly, SameOctetsSameKey}
use Rattle.ior_refs.specs.declared.key.ObjectKey.{ObjectKey}
use Rattle.ots_model.specs.declared.service.RetryKey.{RetryKey}
use Rattle.ots_context.specs.Context.{IsContext}
use Rattle.ots_context.specs.Finding.{context_in_first, first_context}
use Rattle.ots_context.specs.Laws.{ContextsAreReadExactly, ContextsStandExactly}
use Rattle.ots_context.specs.Reading.{context_in}
use Rattle.ots_context.specs.declared.context.Context.{Context}
use Rattle.ots_calls.specs.Call.{operation_of, IsBody}
use Rattle.ots_calls.specs.Fault.{fault_of, fault_of_context, told_as, or_refuse}
use Rattle.ots_calls.specs.Laws.{NamesTellOperations, OneRequestOneCall, RequestsAreReadExactly}
use Rattle.ots_calls.specs.Reading.{call_at}
use Rattle.ots_calls.specs.Request.{AreBoth, IsCall, IsFor, called_with}
use Rattle.ots_calls.specs.Retry.{IsRetry, first_retry, retry_in, retry_in_first}
use Rattle.ots_calls.specs.Table.{operation_named, serves, word_of}
use Rattle.ots_calls.specs.declared.call.Call.{Call}
use Rattle.ots_calls.specs.declared.call.Called.{Called}
use Rattle.ots_calls.specs.declared.fault.CallFault.{CallFault}
use Rattle.ots_calls.specs.declared.fault.CallFault.TheVariants.{BadOperation, Marshal}
use Rattle.ots_calls.specs.declared.operation.Operation.{Operation}
use Rattle.ots_calls.proofs.Steps.{ok_is, bind_ok, check_ok, told_ok, there_ok}
use Rattle.ots_calls.proofs.Bodies.{body_found, body_only}

-- ---- encapsulations

octet_is : (n m : ℕ) → eqb n m ≡ true → n ≡ m
octet_is n m e = grind arith

begins : (first : ℕ) (octets : List ℕ) (order : Order) (r : Reading) → first ≡ order_octet order → inside order octets ≡ r → IsEncapsulation (first ∷ octets) r
begins first octets order r is same =
    subst (λ (s : Reading). IsEncapsulation (first ∷ octets) s) same (record { parts = ap (λ (n : ℕ). n ∷ octets) is; place = refl })

opens : (first : ℕ) (octets : List ℕ) (r : Reading) (b d : Bool) → eqb first 0 ≡ b → eqb first 1 ≡ d → cond b (Ok (inside Big octets)) (cond d (Ok (inside Little octets)) (Err (BadOrder 0))) ≡ Ok r → IsEncapsulation (first ∷ octets) r
opens first octets r true d e f h = begins first octets Big r (octet_is first 0 e) (ok_is {F = CdrFault} (inside Big octets) r h)
opens first octets r false true e f h = begins first octets Little r (octet_is first 1 f) (ok_is {F = CdrFault} (inside Little octets) r h)
opens first octets r false false e f h = absurd cc

pub opened_found : (octets : List ℕ) (r : Reading) → opened octets ≡ Ok r → IsEncapsulation octets r
opened_found [] r e = absurd cc
opened_found (first ∷ octets) r e = opens first octets r (eqb first 0) (eqb first 1) refl refl e

opened_inside : (order : Order) (octets : List ℕ) → opened (order_octet order ∷ octets) ≡ Ok (inside order octets)
opened_inside Big octets = refl
opened_inside Little octets = refl

-- a reading of these parts
abbrev reading : Order → List ℕ → ℕ → Reading
reading order rest place = record { order = order; place = place; rest = rest }

opened_only : (octets : List ℕ) (r : Reading) → IsEncapsulation octets r → opened octets ≡ Ok r
opened_only octets r h =
    ap opened h.parts ∙ opened_inside r.order r.rest ∙ ap (λ (n : ℕ). Ok (reading r.order r.rest n)) (sym h.place)

-- ---- retry keys

-- a key of these parts
abbrev key_of : ℕ → ℕ → RetryKey
key_of client number = record { client = client; number = number }

nothing_left : (xs : List ℕ) → eqb (length xs) 0 ≡ true → xs ≡ []
nothing_left [] e = refl
nothing_left (x ∷ xs) e = absurd (grind arith)

retry_found : ReadingLaws → (octets : List ℕ) (key : RetryKey) → retry_in octets ≡ Ok key → IsRetry key octets
unfolding retry_in
retry_found laws octets key e =
    let o = bind_ok (told_as fault_of (opened octets)) (λ r. told_as fault_of (ulonglong_at r) >>= (λ c. told_as fault_of (ulonglong_at c.1) >>= (λ n. cond (eqb (length n.1.rest) 0) (Ok (key_of c.0 n.0)) (Err (Marshal n.1.place))))) key e in
    let a = bind_ok (told_as fault_of (ulonglong_at o.0)) (λ c. told_as fault_of (ulonglong_at c.1) >>= (λ n. cond (eqb (length n.1.rest) 0) (Ok (key_of c.0 n.0)) (Err (Marshal n.1.place)))) key o.2 in
    let b = bind_ok (told_as fault_of (ulonglong_at a.0.1)) (λ n. cond (eqb (length n.1.rest) 0) (Ok (key_of a.0.0 n.0)) (Err (Marshal n.1.place))) key a.2 in
    let d = check_ok (eqb (length b.0.1.rest) 0) (Marshal b.0.1.place) (Ok (key_of a.0.0 b.0.0)) key b.2 in
    let one = laws.ulonglong.found o.0 a.0.0 a.0.1 (told_ok fault_of (ulonglong_at o.0) a.0 a.1) in
    let two = laws.ulonglong.found a.0.1 b.0.0 b.0.1 (told_ok fault_of (ulonglong_at a.0.1) b.0 b.1) in
    let is : IsRetry (key_of a.0.0 b.0.0) octets = record {
      reader = o.0;
      behind = b.0.1;
      opened = opened_found octets o.0 (told_ok fault_of (opened octets) o.0 o.1);
      stand = (a.0.1, one, (b.0.1, two, refl));
      nothing = nothing_left b.0.1.rest d.0;
    } in
    subst (λ (k : RetryKey). IsRetry k octets) (ok_is {F = CallFault} (key_of a.0.0 b.0.0) key d.1) is

retry_only : ReadingLaws → (octets : List ℕ) (key : RetryKey) → IsRetry key octets → retry_in octets ≡ Ok key
unfolding retry_in
retry_only laws octets key h =
    let s = h.stand in
    let nothing : s.2.0.rest ≡ [] = ap (λ (x : Reading). x.rest) (sym s.2.2) ∙ h.nothing in
    rw (opened_only octets h.reader h.opened, laws.ulonglong.only h.reader key.client s.0 s.1, laws.ulonglong.only s.0 key.number s.2.0 s.2.1, nothing) refl

retries_found : ReadingLaws → (key : Option RetryKey) (octets : Option (List ℕ)) → retry_in_first octets ≡ Ok key → AreBoth IsRetry key octets
retries_found laws (Some key) (Some octets) e =
    let a = bind_ok (retry_in octets) (λ k. Ok (Some k)) (Some key) e in
    let same : a.0 ≡ key = cc in
    subst (λ (k : RetryKey). IsRetry k octets) same (retry_found laws octets a.0 a.1)
retries_found laws None (Some octets) e = let a = bind_ok (retry_in octets) (λ k. Ok (Some k)) None e in absurd cc
retries_found laws (Some key) None e = absurd cc
retries_found laws None None e = tt

retries_only : ReadingLaws → (key : Option RetryKey) (octets : Option (List ℕ)) → AreBoth IsRetry key octets → retry_in_first octets ≡ Ok key
retries_only laws (Some key) (Some octets) h = rw (retry_only laws octets key h) refl
retries_only laws None (Some octets) h = absurd h
retries_only laws (Some key) None h = absurd h
retries_only laws None None h = refl

-- ---- contexts

contexts_found : ContextsAreReadExactly → (c : Option Context) (octets : Option (List ℕ)) → context_in_first octets ≡ Ok c → AreBoth IsContext c octets
contexts_found exact (Some c) (Some octets) e =
    let a = bind_ok (context_in octets) (λ k. Ok (Some k)) (Some c) e in
    let same : a.0 ≡ c = cc in
    subst (λ (k : Context). IsContext k octets) same ((exact octets a.0).0 a.1)
contexts_found exact None (Some octets) e = let a = bind_ok (context_in octets) (λ k. Ok (Some k)) None e in absurd cc
contexts_found exact (Some c) None e = absurd cc
contexts_found exact None None e = tt

contexts_only : ContextsAreReadExactly → (c : Option Context) (octets : Option (List ℕ)) → AreBoth IsContext c octets → context_in_first octets ≡ Ok c
contexts_only exact (Some c) (Some octets) h = rw ((exact octets c).1 h) refl
contexts_only exact None (Some octets) h = absurd h
contexts_only exact (Some c) None h = absurd h
contexts_only exact None None h = refl

-- ---- the whole

-- a call of these parts
abbrev called : ObjectKey → Call → Option RetryKey → Option Context → Called
called key call retry context = record { key = key; call = call; retry = retry; context = context }

requests_found : NamesTellOperations → ContextsAreReadExactly → ContextsStandExactly → ReferencesAreReadExactly → ReadingLaws → (c : Called) (r : Request) → IsFor c.key r.target → called_with c.key r ≡ Ok c → IsCall c r
unfolding called_with
requests_found names contexts stand refs laws c r for e =
    let body = standing r.order 0 r.body in
    let o = bind_ok (or_refuse BadOperation (operation_named c.key.kind r.operation)) (λ op. told_as fault_of_context (context_in_first (first_context r.contexts)) >>= (λ x. retry_in_first (first_retry r.contexts) >>= (λ k. call_at op body >>= (λ call. Ok (called c.key call k x))))) c e in
    let x = bind_ok (told_as fault_of_context (context_in_first (first_context r.contexts))) (λ x. retry_in_first (first_retry r.contexts) >>= (λ k. call_at o.0 body >>= (λ call. Ok (called c.key call k x)))) c o.2 in
    let k = bind_ok (retry_in_first (first_retry r.contexts)) (λ k. call_at o.0 body >>= (λ call. Ok (called c.key call k x.0))) c x.2 in
    let b = bind_ok (call_at o.0 body) (λ call. Ok (called c.key call k.0 x.0)) c k.2 in
    let same : called c.key b.0 k.0 x.0 ≡ c = ok_is {F = CallFault} (called c.key b.0 k.0 x.0) c b.2 in
    let call : b.0 ≡ c.call = ap (λ (y : Called). y.call) same in
    let found = body_found refs stand laws o.0 body b.0 b.1 in
    let row : operation_of c.call ≡ o.0 = ap operation_of (sym call) ∙ found.0 in
    let named = (names c.key.kind r.operation o.0).0 (there_ok BadOperation (operation_named c.key.kind r.operation) o.0 o.1) in
    record {
      key = for;
      word = named.1 ∙ ap word_of (sym row);
      kind = subst (λ (op : Operation). serves c.key.kind op ≡ true) (sym row) named.0;
      context = subst (λ (y : Option Context). AreBoth IsContext y (first_context r.contexts)) (ap (λ (y : Called). y.context) same) (contexts_found contexts x.0 (first_context r.contexts) (told_ok fault_of_context (context_in_first (first_context r.contexts)) x.0 x.1));
      retry = subst (λ (y : Option RetryKey). AreBoth IsRetry y (first_retry r.contexts)) (ap (λ (y : Called). y.retry) same) (retries_found laws k.0 (first_retry r.contexts) k.1);
      body = subst (λ (y : Call). IsBody y body) call found.1;
    }

requests_only : NamesTellOperations → ContextsAreReadExactly → ContextsStandExactly → ReferencesAreReadExactly → ReadingLaws → (c : Called) (r : Request) → IsCall c r → called_with c.key r ≡ Ok c
unfolding called_with
requests_only names contexts stand refs laws c r h =
    rw ((names c.key.kind r.operation (operation_of c.call)).1 (h.kind, h.word), contexts_only contexts c.context (first_context r.contexts) h.context, retries_only laws c.retry (first_retry r.contexts) h.retry, body_only refs stand laws c.call (standing r.order 0 r.body) h.body) refl

pub requests_exact : NamesTellOperations → ContextsAreReadExactly → ContextsStandExactly → ReferencesAreReadExactly → ReadingLaws → RequestsAreReadExactly
requests_exact names contexts stand refs laws c r for =
    (requests_found names contexts stand refs laws c r for, requests_only names contexts stand refs laws c r)

-- ---- one request, one call

same_target : (a b : List ℕ) (t : Target) → t ≡ targets.Key a → t ≡ targets.Key b → a ≡ b
same_target a b t e f = cc

same_call : (a b : Called) (r : Request) → called_with a.key r ≡ Ok a → called_with b.key r ≡ Ok b → a.key ≡ b.key → a ≡ b
same_call a b r e f same = ok_is {F = CallFault} a b (sym e ∙ ap (λ (k : ObjectKey). called_with k r) same ∙ f)

pub one_call : RequestsAreReadExactly → SameOctetsSameKey → OneRequestOneCall
one_call exact same a b r ha hb =
    let octets = same_target ha.key.octets hb.key.octets r.target ha.key.is_key hb.key.is_key in
    let key = same a.key b.key ha.key.spelled.numbers hb.key.spelled.numbers (sym ha.key.spelled.octets ∙ octets ∙ hb.key.spelled.octets) in
    same_call a b r ((exact a r ha.key).1 ha) ((exact b r hb.key).1 hb) key
