use Rattle.std.proofs.Common.{◌∙◌, ap, arith, length, length-append}
use Rattle.session_table.proofs.Starting.{each_more}
use Rattle.session_table.proofs.seats.free_seats.Goals as goal

pub loop-grant-preserved : goal.loop-grant-preserved
loop-grant-preserved c =
    let long = ap length c.push_reserved.ensures.items ∙ length-append c.loop-grant.list.items _ in
    record {
      long = omega arith;
      items = omega (arith, long);
      room = omega arith;
      each = each_more c.args.layout.now c.args.vector c.args.uses_trst c.loop-grant.list.items c.push_reserved.new.self.items (record { session = c.in_ok-session.session; conn = 0 }) c.loop-grant.grant c.loop-grant.invariant.items c.push_reserved.ensures.items c.loop-grant.invariant.each
          (record {
            grant_is = c.in_ok-session.ensures.grant;
            parts_are = c.in_ok-session.ensures.parts;
            protocol_is = c.in_ok-session.ensures.protocol;
            free = c.in_ok-session.ensures.free.0;
            reply = c.in_ok-session.ensures.free.1;
            fit = c.in_ok-session.ensures.free.2;
            trst_is = c.in_ok-session.ensures.trst;
            shows = c.in_ok-session.ensures.shows;
          });
    }
