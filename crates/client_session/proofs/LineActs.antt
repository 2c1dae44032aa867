-- The lines that a session of remote_bitbang sets, beside the act of its seat.
use Rattle.std.proofs.Common.{◌≡◌, ◌-◌, ℕ, Bool, true, false, not, ◌&&◌, ◌⊎◌, cond, List, [], ◌∷◌, ◌++◌, drop, length, refl, ap, sym, ◌∙◌, subst, inl, inr, Some, None}
use Rattle.std.specs.declared.option.Option.{Option}
use Rattle.std.proofs.Math.Bool.{beq}
use Rattle.tap_states.specs.States.{is_capture_dr}
use Rattle.chain_model.specs.Chains.{ChainState, reset}
use Rattle.grant_table.specs.declared.Protocol.TheVariants as protocols
use Rattle.grant_table.specs.Layouts.{LayoutShape, group_of}
use Rattle.chain_token.specs.declared.token.Token.{Token}
use Rattle.chain_token.specs.Waiting.{may_open}
use Rattle.scan_share.specs.Scans.{code_list, contents_of, types_of}
use Rattle.scan_share.specs.Views.{ParkedView, OpenView}
use Rattle.scan_share.proofs.Groups.{group_of_laws}
use Rattle.virtual_tap.specs.Taps.{VTapState}
use Rattle.virtual_tap.specs.Views.{StandsFor}
use Rattle.client_session.specs.declared.input.Input.{Input}
use Rattle.client_session.specs.declared.input.Input.TheVariants.{Xvc, Bitbang}
use Rattle.client_session.specs.declared.progress.Progress.{Progress}
use Rattle.client_session.specs.Acts.{Act}
use Rattle.client_session.specs.Acts.Act.{SetLines, SetTrst}
use Rattle.client_session.specs.Seats.{Seat, acted, advanced, after_tck, opens_next, rises_next}
use Rattle.client_session.specs.Turns.{Turn, advanced_turn, freeing_cost}
use Rattle.client_session.specs.Sessions.{DeskView}
use Rattle.client_session.specs.Stores.{acts_of, protocol_of, reply_of, sampled_of}
use Rattle.client_session.specs.Going.{Holds, ResetsNext}
use Rattle.client_session.specs.Desks.{Attends, IsSound, StepsTo, desk_of}
use Rattle.client_session.specs.Calls.{ComesTo, IsToAct, ShowsSeat, WaitsThere}
use Rattle.client_session.specs.Edges.{EdgesTo, MakesEdge, SameLetters}
use Rattle.client_session.proofs.Answering.{one_act}
use Rattle.client_session.proofs.Quietly.{no_rise_next, still_step, still_turn}
use Rattle.client_session.proofs.Resting.{as_is}
use Rattle.client_session.proofs.Attending.{follows_quiet}

never : {A : Type 0} → false ≡ true → A
never e = absurd (let q : false ≡ true = e in cc)

-- ---- the letters

pub same_letters : (input : Input) → SameLetters input input
same_letters input = record { protocol = refl; unused = refl; replied_is = λ said. refl; keeps = λ vector h. h; room = λ said h. h }

no_samples : (input : Input) (tdo : Bool) → protocol_of input ≡ protocols.Bitbang → sampled_of input tdo ≡ []
no_samples (Xvc messages) tdo h = absurd (let q : protocols.Xvc ≡ protocols.Bitbang = h in cc)
no_samples (Bitbang letters) tdo h = refl

-- a session whose lines were set
module _ (old : Progress) (tap : VTapState) (tck trst : Bool) (input : Input) (same : SameLetters old.input input) where
  abbrev new : Progress
  new = record old { tap = tap; tck = tck; trst = trst; input = input }

  reply_kept : reply_of new ≡ reply_of old
  reply_kept = ap (λ bytes. drop (length bytes - old.pending) bytes) (same.replied_is old.said.items)

  -- it shows a seat in which nothing else changed
  shows_lines : (act : Act) (acts : List Act) (grant : ℕ) (given : List ℕ) (turn next : Turn) (chain : ChainState) → protocol_of old.input ≡ protocols.Bitbang → IsToAct act old grant given turn → acts_of input ≡ acts
      → Holds grant next → types_of next.seat.chain ≡ tap.parts → StandsFor tap.view next.seat.chain
      → next.seat ≡ record turn.seat { acts = acts; tck = tck; trst = trst; chain = chain } → ShowsSeat new grant given next
  shows_lines act acts grant given turn next chain bitbang is left holds types stands seat = record {
    tap = record {
      going = ap (λ (s : Seat). s.going) seat ∙ is.tap.going;
      holds = holds;
      types = types;
      stands = stands;
      protocol = same.protocol ∙ is.tap.protocol ∙ sym (ap (λ (s : Seat). s.protocol) seat);
      uses_trst = is.tap.uses_trst ∙ sym (ap (λ (s : Seat). s.uses_trst) seat);
      vector = is.tap.vector ∙ sym (ap (λ (s : Seat). s.vector) seat);
      tck = sym (ap (λ (s : Seat). s.tck) seat);
      trst = sym (ap (λ (s : Seat). s.trst) seat);
    };
    unused = same.unused ∙ is.unused ∙ sym (ap (λ (s : Seat). s.unused) seat);
    used = is.used ∙ sym (ap (λ (s : Seat). s.used) seat);
    acts = left ∙ sym (ap (λ (s : Seat). s.acts) seat);
    sampled = no_samples input tap.view.tdo (same.protocol ∙ bitbang) ∙ sym is.sampled ∙ sym (ap (λ (s : Seat). s.sampled) seat);
    replies = ap (λ bytes. given ++ bytes) reply_kept ∙ is.replies ∙ sym (ap (λ (s : Seat). s.replies) seat);
  }

-- a session that waited before an edge is to make it
pub edge_left_to_act : (progress : Progress) (act : Act) (grant : ℕ) (given : List ℕ) (turn : Turn) → protocol_of progress.input ≡ protocols.Bitbang → acts_of progress.input ≡ act ∷ [] → ShowsSeat progress grant given turn → IsToAct act progress grant given turn
edge_left_to_act progress act grant given turn bitbang left shows = record {
  tap = shows.tap;
  unused = shows.unused;
  used = shows.used;
  acts = sym shows.acts ∙ left;
  sampled = sym shows.sampled ∙ no_samples progress.input progress.tap.view.tdo bitbang;
  replies = shows.replies;
}

pub attends_map : {C : Type 0} (layout : LayoutShape) (grant : ℕ) (base_desk : DeskView) (base turn : Turn) (P Q : Turn → Type 0) (desk : Token (ParkedView C) (OpenView C)) (told : Option ChainState)
    → (P turn → Q turn) → Attends layout grant base_desk base P desk told turn → Attends layout grant base_desk base Q desk told turn
attends_map layout grant base_desk base turn P Q desk None on attends = absurd attends
attends_map layout grant base_desk base turn P Q desk (Some chain) on attends = (attends.0, on attends.1)

-- ---- what the act of a letter is

pub same_level : (a b : Bool) → beq a b ≡ true → a ≡ b
same_level true true h = refl
same_level true false h = never h
same_level false true h = never h
same_level false false h = refl

pub other_level : (a b : Bool) → beq a b ≡ false → a ≡ not b
other_level true true h = never (sym h)
other_level true false h = refl
other_level false true h = refl
other_level false false h = never (sym h)

opens_bits : (tck capture is_open : Bool) → (capture && (not is_open && (tck && (not (not tck) && true)))) ≡ (tck && (capture && not is_open))
opens_bits true true true = refl
opens_bits true true false = refl
opens_bits true false is_open = refl
opens_bits false true true = refl
opens_bits false true false = refl
opens_bits false false is_open = refl

level_kept : (tck trst : Bool) → (tck && (not tck && not trst)) ≡ false
level_kept true trst = refl
level_kept false trst = refl

held_low : (a b : Bool) → (a && (b && false)) ≡ false
held_low true true = refl
held_low true false = refl
held_low false b = refl

no_change : (level tms tdi : Bool) (chain : ChainState) → after_tck level level tms tdi chain ≡ chain
no_change true tms tdi chain = refl
no_change false tms tdi chain = refl

module _ (old : Progress) (grant : ℕ) (given : List ℕ) (turn : Turn) where
  acted_now : (act : Act) → IsToAct act old grant given turn → advanced turn.seat ≡ acted act (record turn.seat { acts = [] })
  acted_now act is = one_act act [] turn.seat is.tap.going is.acts

  -- an edge
  pub makes_edge : (tck tms tdi : Bool) → old.trst ≡ false → old.tck ≡ not tck → IsToAct (SetLines tck tms tdi) old grant given turn → MakesEdge tck tms tdi old.tap grant turn
  makes_edge tck tms tdi low level is =
      let trst : turn.seat.trst ≡ false = sym is.tap.trst ∙ low in
      let before : turn.seat.tck ≡ not tck = sym is.tap.tck ∙ level in
      record {
        holds = is.tap.holds;
        types = is.tap.types;
        stands = is.tap.stands;
        opens = (λ i. is.tap.going i && (is_capture_dr (sym is.tap.stands.state i) && (not (sym is.tap.stands.scan i) && rises_next (is.acts i) (record turn.seat { tck = before i; trst = trst i }))))
            ∙ opens_bits tck (is_capture_dr old.tap.view.state) old.tap.view.scan_open;
        moves = ap (λ (s : Seat). s.chain) (acted_now (SetLines tck tms tdi) is) ∙ (λ i. cond (trst i) turn.seat.chain (after_tck (before i) tck tms tdi turn.seat.chain));
        cost = λ width. ap (λ acts. freeing_cost acts width) is.acts;
      }

  -- a reset
  pub makes_reset : (level : Bool) → level ≡ true → old.trst ≡ false → IsToAct (SetTrst level) old grant given turn → ResetsNext old.tap grant turn
  makes_reset level up low is = record {
    holds = is.tap.holds;
    types = is.tap.types;
    stands = is.tap.stands;
    opens = no_rise_next turn.seat (ap (λ acts. rises_next acts turn.seat) is.acts);
    resets = ap (λ (s : Seat). s.chain) (acted_now (SetTrst level) is) ∙ (λ i. cond (up i && not ((sym is.tap.trst ∙ low) i)) (reset turn.seat.chain) turn.seat.chain);
    cost = λ width. ap (λ acts. freeing_cost acts width) is.acts ∙ ap (λ b. freeing_cost (SetTrst b ∷ []) width) up;
  }

module _ (layout : LayoutShape) (grant : ℕ) (sound : IsSound layout grant) (base_desk : DeskView) (base turn : Turn) {C : Type 0} (old : Progress) (bitbang : protocol_of old.input ≡ protocols.Bitbang) (given : List ℕ) where
  -- an act that leaves the chain
  pub comes_still : (act : Act) (tck trst : Bool) (desk : Token (ParkedView C) (OpenView C)) (told : Option ChainState) → acts_of old.input ≡ []
      → (IsToAct act old grant given turn → (rises_next (act ∷ []) turn.seat ≡ false) × (acted act (record turn.seat { acts = [] }) ≡ record turn.seat { acts = []; tck = tck; trst = trst }))
      → Attends layout grant base_desk base (IsToAct act old grant given) desk told turn
      → ComesTo layout grant (Attends layout grant base_desk base (ShowsSeat (record old { tck = tck; trst = trst }) grant given) desk told) turn
  comes_still act tck trst desk None none calm attends = absurd attends
  comes_still act tck trst desk (Some chain) none calm attends =
      let is = attends.1 in
      let seat : advanced turn.seat ≡ record turn.seat { acts = []; tck = tck; trst = trst } = acted_now old grant given turn act is ∙ (calm is).1 in
      let opens : opens_next turn.seat ≡ false = no_rise_next turn.seat (ap (λ acts. rises_next acts turn.seat) is.acts ∙ (calm is).0) in
      let chain_is : (advanced turn.seat).chain ≡ turn.seat.chain = ap (λ (s : Seat). s.chain) seat in
      let scan = ap (λ (c : ChainState). c.scan_open) chain_is in
      let quiet = still_step layout grant turn opens is.tap.holds scan (ap contents_of chain_is) (λ h. ap code_list chain_is) in
      let next : Turn = record turn { seat = advanced turn.seat } in
      record {
        next = next;
        steps = 1;
        made = sym (still_turn layout grant turn opens is.tap.holds scan);
        gone = ap (λ (s : Seat). s.gone) seat;
        past = ap (λ (s : Seat). s.past) seat;
        there = (
          follows_quiet layout grant sound.parts (group_of_laws layout (group_of layout.grants grant) sound.group_is) base_desk (desk_of layout desk chain) base turn next quiet attends.0,
          shows_lines old old.tap tck trst old.input (same_letters old.input) act [] grant given turn next turn.seat.chain bitbang is none
              (is.tap.holds ∙ sym scan) (ap types_of chain_is ∙ is.tap.types) (subst (StandsFor old.tap.view) (sym chain_is) is.tap.stands) seat,
        );
      }

  -- an edge
  module _ (tck tms tdi : Bool) (tap : VTapState) (input : Input) (same : SameLetters old.input input) (low : old.trst ≡ false) (level : old.tck ≡ not tck)
      (desk next : Token (ParkedView C) (OpenView C)) (told told_next : Option ChainState) where
    abbrev IsToSet : Turn → Type 0
    IsToSet = IsToAct (SetLines tck tms tdi) old grant given

    -- it was made
    pub comes_edge : acts_of input ≡ [] → (Attends layout grant base_desk base (MakesEdge tck tms tdi old.tap grant) desk told turn → EdgesTo false layout grant tap base_desk base next told_next turn)
        → Attends layout grant base_desk base IsToSet desk told turn
        → ComesTo layout grant (Attends layout grant base_desk base (ShowsSeat (record old { tap = tap; tck = tck; input = input }) grant given) next told_next) turn
    comes_edge none went attends = by told told_next attends (went (attends_map layout grant base_desk base turn IsToSet (MakesEdge tck tms tdi old.tap grant) desk told (makes_edge old grant given turn tck tms tdi low level) attends))
      where
        by : (t u : Option ChainState) → Attends layout grant base_desk base IsToSet desk t turn → EdgesTo false layout grant tap base_desk base next u turn
            → ComesTo layout grant (Attends layout grant base_desk base (ShowsSeat (record old { tap = tap; tck = tck; input = input }) grant given) next u) turn
        by None u attends edges = absurd attends
        by (Some chain) None attends edges = absurd edges
        by (Some chain) (Some chain_next) attends edges =
            let is = attends.1 in
            let made = edges.1 in
            let moved = cond turn.seat.trst turn.seat.chain (after_tck turn.seat.tck tck tms tdi turn.seat.chain) in
            let seat : (advanced_turn layout grant turn).seat ≡ record turn.seat { acts = []; tck = tck; trst = old.trst; chain = moved } =
            made.seat ∙ acted_now old grant given turn (SetLines tck tms tdi) is ∙ (λ i. record turn.seat { acts = []; tck = tck; trst = sym is.tap.trst i; chain = moved }) in
            record {
              next = advanced_turn layout grant turn;
              steps = 1;
              made = refl;
              gone = ap (λ (s : Seat). s.gone) seat;
              past = ap (λ (s : Seat). s.past) seat;
              there = (
                edges.0,
                shows_lines old tap tck old.trst input same (SetLines tck tms tdi) [] grant given turn (advanced_turn layout grant turn) moved bitbang is none made.holds made.types made.stands seat,
              );
            }

    -- the session waits before it
    pub comes_wait : acts_of input ≡ SetLines tck tms tdi ∷ [] → (Attends layout grant base_desk base (MakesEdge tck tms tdi old.tap grant) desk told turn → EdgesTo true layout grant tap base_desk base next told_next turn)
        → Attends layout grant base_desk base IsToSet desk told turn
        → ComesTo layout grant (Attends layout grant base_desk base (WaitsThere layout (record old { tap = tap; input = input }) grant given) next told_next) turn
    comes_wait kept went attends = by told told_next attends (went (attends_map layout grant base_desk base turn IsToSet (MakesEdge tck tms tdi old.tap grant) desk told (makes_edge old grant given turn tck tms tdi low level) attends))
      where
        by : (t u : Option ChainState) → Attends layout grant base_desk base IsToSet desk t turn → EdgesTo true layout grant tap base_desk base next u turn
            → ComesTo layout grant (Attends layout grant base_desk base (WaitsThere layout (record old { tap = tap; input = input }) grant given) next u) turn
        by None u attends edges = absurd attends
        by (Some chain) None attends edges = absurd edges
        by (Some chain) (Some chain_next) attends edges =
            let is = attends.1 in
            let waits = edges.1 in
            let seat : (advanced_turn layout grant turn).seat ≡ record turn.seat { acts = SetLines tck tms tdi ∷ []; tck = old.tck; trst = old.trst; chain = turn.seat.chain } =
            waits.seat ∙ (λ i. record turn.seat { acts = is.acts i; tck = sym is.tap.tck i; trst = sym is.tap.trst i; chain = turn.seat.chain }) in
            record {
              next = advanced_turn layout grant turn;
              steps = 1;
              made = refl;
              gone = ap (λ (s : Seat). s.gone) waits.seat;
              past = ap (λ (s : Seat). s.past) waits.seat;
              there = (
                edges.0,
                record {
                  shows = shows_lines old tap old.tck old.trst input same (SetLines tck tms tdi) (SetLines tck tms tdi ∷ []) grant given turn (advanced_turn layout grant turn) turn.seat.chain bitbang is kept waits.holds waits.types waits.stands seat;
                  rests = waits.rests refl;
                  waits = waits.line refl;
                },
              );
            }

  -- TRST goes to 1
  pub comes_reset : (level : Bool) (tap : VTapState) (desk next : Token (ParkedView C) (OpenView C)) (told told_next : Option ChainState) → level ≡ true → old.trst ≡ false → acts_of old.input ≡ []
      → (Attends layout grant base_desk base (ResetsNext old.tap grant) desk told turn → StepsTo layout grant tap base_desk base next told_next turn)
      → Attends layout grant base_desk base (IsToAct (SetTrst level) old grant given) desk told turn
      → ComesTo layout grant (Attends layout grant base_desk base (ShowsSeat (record old { tap = tap; trst = level }) grant given) next told_next) turn
  comes_reset level tap desk next told told_next up low none went attends = by told told_next attends (went (attends_map layout grant base_desk base turn (IsToAct (SetTrst level) old grant given) (ResetsNext old.tap grant) desk told (makes_reset old grant given turn level up low) attends))
    where
      by : (t u : Option ChainState) → Attends layout grant base_desk base (IsToAct (SetTrst level) old grant given) desk t turn → StepsTo layout grant tap base_desk base next u turn
          → ComesTo layout grant (Attends layout grant base_desk base (ShowsSeat (record old { tap = tap; trst = level }) grant given) next u) turn
      by None u attends steps = absurd attends
      by (Some chain) None attends steps = absurd steps
      by (Some chain) (Some chain_next) attends steps =
          let is = attends.1 in
          let shut = steps.1 in
          let moved = cond (level && not turn.seat.trst) (reset turn.seat.chain) turn.seat.chain in
          let opens = (makes_reset old grant given turn level up low is).opens in
          let seat : (advanced_turn layout grant turn).seat ≡ record turn.seat { acts = []; tck = old.tck; trst = level; chain = moved } =
          ap (λ (t : Turn). t.seat) (as_is layout grant false (may_open turn.holder turn.waiting grant) turn opens refl)
          ∙ acted_now old grant given turn (SetTrst level) is ∙ (λ i. record turn.seat { acts = []; tck = sym is.tap.tck i; trst = level; chain = moved }) in
          record {
            next = advanced_turn layout grant turn;
            steps = 1;
            made = refl;
            gone = ap (λ (s : Seat). s.gone) seat;
            past = ap (λ (s : Seat). s.past) seat;
            there = (
              steps.0,
              shows_lines old tap old.tck level old.input (same_letters old.input) (SetTrst level) [] grant given turn (advanced_turn layout grant turn) moved bitbang is none shut.holds shut.types shut.stands seat,
            );
          }

-- ---- an act that leaves the chain

-- lines that make no edge: while TRST is 1, or where TCK keeps its level
pub lines_still : (old : Progress) (grant : ℕ) (given : List ℕ) (turn : Turn) (tck tms tdi : Bool) → (old.trst ≡ true) ⊎ (old.tck ≡ tck) → IsToAct (SetLines tck tms tdi) old grant given turn
    → (rises_next (SetLines tck tms tdi ∷ []) turn.seat ≡ false) × (acted (SetLines tck tms tdi) (record turn.seat { acts = [] }) ≡ record turn.seat { acts = []; tck = tck; trst = old.trst })
lines_still old grant given turn tck tms tdi (inl high) is =
    let trst : turn.seat.trst ≡ true = sym is.tap.trst ∙ high in (
      ap (λ b. tck && (not turn.seat.tck && not b)) trst ∙ held_low tck (not turn.seat.tck),
      (λ i. record turn.seat { acts = []; tck = tck; trst = sym is.tap.trst i; chain = cond (trst i) turn.seat.chain (after_tck turn.seat.tck tck tms tdi turn.seat.chain) }),
    )
lines_still old grant given turn tck tms tdi (inr level) is =
    let before : turn.seat.tck ≡ tck = sym is.tap.tck ∙ level in (
      ap (λ b. tck && (not b && not turn.seat.trst)) before ∙ level_kept tck turn.seat.trst,
      (λ i. record turn.seat { acts = []; tck = tck; trst = sym is.tap.trst i; chain = (ap (λ b. cond turn.seat.trst turn.seat.chain (after_tck b tck tms tdi turn.seat.chain)) before ∙ ap (cond turn.seat.trst turn.seat.chain) (no_change tck tms tdi turn.seat.chain) ∙ either turn.seat.trst turn.seat.chain) i }),
    )
  where
    either : (b : Bool) (chain : ChainState) → cond b chain chain ≡ chain
    either true chain = refl
    either false chain = refl

-- TRST goes to 0, or keeps its level
pub trst_still : (old : Progress) (grant : ℕ) (given : List ℕ) (turn : Turn) (level : Bool) → (level ≡ false) ⊎ (old.trst ≡ true) → IsToAct (SetTrst level) old grant given turn
    → (rises_next (SetTrst level ∷ []) turn.seat ≡ false) × (acted (SetTrst level) (record turn.seat { acts = [] }) ≡ record turn.seat { acts = []; tck = old.tck; trst = level })
trst_still old grant given turn level (inl down) is = (
  refl,
  (λ i. record turn.seat { acts = []; tck = sym is.tap.tck i; trst = level; chain = cond (down i && not turn.seat.trst) (reset turn.seat.chain) turn.seat.chain }),
)
trst_still old grant given turn level (inr high) is = (
  refl,
  (λ i. record turn.seat { acts = []; tck = sym is.tap.tck i; trst = level; chain = (ap (λ b. cond (level && not b) (reset turn.seat.chain) turn.seat.chain) (sym is.tap.trst ∙ high) ∙ ap (λ b. cond b (reset turn.seat.chain) turn.seat.chain) (and_false level)) i }),
)
  where
    and_false : (b : Bool) → (b && false) ≡ false
    and_false true = refl
    and_false false = refl
