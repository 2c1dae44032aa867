-- A hub over sessions that are all free.
use Rattle.std.proofs.Common.{◌≡◌, ℕ, Bool, false, List, [], length, map, ap, sym, ◌∙◌}
use Rattle.std.proofs.lemmas.List.{length-map}
use Rattle.grant_table.specs.Layouts.{LayoutShape}
use Rattle.client_session.specs.declared.Stand.TheVariants as stand
use Rattle.client_session.specs.Sessions.{is_taken}
use Rattle.plays.specs.Stands.{HubView}
use Rattle.plays.proofs.Lists.{false_true}
use Rattle.session_table.specs.Tables.{stand_at, reply_at}
use Rattle.hub.specs.Served.{IsHub, buffer_size}

-- a hub over a table that has begun
pub begun_hub : (hub : HubView) (layout : LayoutShape) (gone : List Bool) (buffer : List ℕ) → hub.layout ≡ layout → length hub.seats ≡ length layout.grants
    → ((grant : ℕ) → (stand_at hub grant ≡ stand.Free) × (reply_at hub grant ≡ [])) → hub.ready ≡ map (λ shape. false) layout.grants → length gone ≡ length layout.grants → length buffer ≡ buffer_size → IsHub hub gone buffer
begun_hub hub layout gone buffer is seats free ready flags room = record {
  whole = record {
    seats = seats ∙ ap (λ l. length l.grants) (sym is);
    ready = ap length ready ∙ length-map layout.grants (λ shape. false) ∙ ap (λ l. length l.grants) (sym is);
    flags = flags ∙ ap (λ l. length l.grants) (sym is);
  };
  calm = λ fit. record { fit = fit; flagged = λ grant taken. false_true (sym (ap is_taken (free grant).0) ∙ taken); quiet = λ grant away. (free grant).1 };
  room = room;
}
