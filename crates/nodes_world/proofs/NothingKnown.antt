-- Of the empty world all is known.
use Rattle.std.proofs.Common.{◌≡◌, ℕ, ◌<◌, arith, List, [], ◌∷◌, ◌++◌}
use Rattle.nodes_world.specs.World.{empty, end_at, node_at, referred, resource_at, thing_in}
use Rattle.nodes_world.specs.AgreementInside.{Known}
use Rattle.nodes_world.specs.Agreement as agreed
use Rattle.nodes_world.specs.Agreement.{IsRolledBack}

pub nothing_known : Known empty []
unfolding end_at node_at referred resource_at thing_in
nothing_known = record {
  names = record {
    keys = λ name other named is also. absurd cc;
    once = λ name named among. absurd (none_there among.1);
    transactions = λ name key is. absurd cc;
    kinds = λ name key is. absurd cc;
    services = λ name key is. absurd cc;
    tops = λ name node stands. absurd stands;
    subs = λ name above stands. absurd stands;
    ended = λ name committed stands. absurd stands;
    one_parent = λ name above other stands also. absurd stands;
    resources = λ name key is. absurd cc;
    registered = λ name t is. absurd is.1;
    one_transaction = λ name t other is also. absurd is.1;
    no_import = λ name above node stands. stands;
    objects = λ name key is. absurd cc;
    shown = λ name s stands. absurd stands;
  };
  seats = record {
    named = λ place s there. absurd cc;
    there = λ name place is. absurd cc;
    up = λ name life stands. absurd stands;
    senders = λ place o sent. absurd cc;
    few = omega arith;
    calls = λ nth m to act there. absurd cc;
  };
  disks = record {
    held = λ place s up there is. absurd cc;
    whole = λ place s n there is. absurd cc;
    follows = λ place s n there is. absurd cc;
    decisions = λ place s n there is. absurd cc;
    rise = λ before behind server life earlier is stands. absurd (no_front before behind _ is);
    lives = λ place s up life rs there is stands held. absurd stands;
    no_superior = λ place rs r held. absurd cc;
    rests = λ place s there is. absurd cc;
  };
  words = record {
    named = λ place o sent. absurd cc;
    once = record {
      one_object = λ place o other sent also same. absurd cc;
      one_word = λ first second place o other is also same. absurd cc;
    };
    told = λ nth place o phase r is that there. absurd cc;
    sent = λ number phase name stands. absurd stands;
    replied = λ reply request m answer there says. absurd cc;
    asked = λ reply request m answer there says. absurd cc;
    voters = λ reply nth place m vote o there. absurd cc;
    lives = λ place o rs sent held. absurd cc;
    given = λ place s n o there is sent same. absurd cc;
    told_again = λ place o rs sent same held. absurd cc;
    serials = λ place o f key sent. absurd cc;
  };
  votes = λ name vote stands. absurd stands;
  resources = λ name key r is. absurd cc;
  families = λ key f is. absurd cc;
  open_words = record {
    commit = λ g t b key f sent. absurd sent.1;
    one_phase = λ g t b key f sent. absurd sent.1;
  };
  records = λ place life slot generation by asked regs rs held. absurd cc;
  recorded = λ name key is. absurd cc;
  ends = λ before behind t committed earlier is stands. absurd (no_front before behind _ is);
  one_outcome = λ name key is. absurd cc;
  commits = λ place o sent. absurd cc;
  one_phase = λ name sent. absurd sent.1;
  rollbacks = λ place o r sent. absurd cc;
  rolled_back = λ name key f is. absurd cc;
  told_back = λ name key f is. absurd cc;
  transactions = record {
    seated = λ name key is. absurd cc;
    lives = λ name key rs is. absurd cc;
    decided = λ name outcome stands. absurd stands;
    rolled_back = λ name back. absurd (none_back name back);
  };
  nodes = λ place n is. absurd cc;
  counted = record { numbers = λ place e is. absurd cc; messages = λ place e is. absurd cc; short = λ place e name is. absurd cc };
  allowed = tt;
}
  where
    none_there : {k : ℕ} → k < 0 → ⊥
    none_there {k} less = omega (arith, less)

    none_back : (name : List ℕ) → IsRolledBack [] name → ⊥
    none_back name (agreed.IsRolledBack.by_known reason s) = s
    none_back name (agreed.IsRolledBack.by_other reason c) = none_there c.1
    none_back name (agreed.IsRolledBack.by_synchronization reason synchronization c) = none_there c.1

    no_front : {A : Type 0} (before behind : List A) (line : A) → [] ≡ before ++ (line ∷ behind) → ⊥
    no_front [] behind line is = cc
    no_front (x ∷ before) behind line is = cc
