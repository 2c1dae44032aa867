use Rattle.std.proofs.Common.{◌+◌, drop, ap, sym, ◌∙◌, None, Some}
use Rattle.client_session.specs.Seats.{next_letter}
use Rattle.client_session.specs.Seats.Next.{Whole}
use Rattle.client_session.specs.Stores.{unused_of}
use Rattle.client_session.specs.Ends.{letter_end, letters_end}
use Rattle.client_session.proofs.Lettering.{first_some, quit_on}
use Rattle.client_session.proofs.ByBytes.{first_ends, no_letter}
use Rattle.client_session.proofs.progress.Progress.next_letter.Goals as goal

pub returns-in-None-clause-went : goal.returns-in-None-clause-went
returns-in-None-clause-went c = λ layout grant given turn shows.
    let first = first_some c.args.self.now.uses_trst c.args.self.now.used c.in-Some.byte (Some c.in-Ok.meant) (unused_of c.args.self.now.input) (sym c.first_letter.ensures ∙ c.in-Some.is) c.in-Ok.ensures.ok in
    let whole = first ∙ ap (λ meant. next_letter c.args.self.now.uses_trst c.args.self.now.used (Some meant)) c.in-None.ensures.quit in
    quit_on layout grant c.args.self.now given turn whole c.requires.none c.requires.protocol shows

pub returns-in-Some-of-clause-next : goal.returns-in-Some-of-clause-next
returns-in-Some-of-clause-next c = record {
  whole =
      first_some c.args.self.now.uses_trst c.args.self.now.used c.in-Some.byte (Some c.in-Ok.meant) (unused_of c.args.self.now.input) (sym c.first_letter.ensures ∙ c.in-Some.is) c.in-Ok.ensures.ok
      ∙ ap (λ acts. Whole acts 1) (c.in-Some-of.ensures.acts c.args.self.now.used);
  trst = c.in-Some-of.ensures.trst;
}

pub returns-in-None-clause-ends : goal.returns-in-None-clause-ends
returns-in-None-clause-ends c =
    first_ends c.args.self.now.used c.in-Some.byte (Some c.in-Ok.meant) (unused_of c.args.self.now.input) (sym c.first_letter.ensures ∙ c.in-Some.is) c.in-Ok.ensures.ok
    ∙ ap (λ meant. letter_end c.args.self.now.used (Some meant) (letters_end (c.args.self.now.used + 1) (drop 1 (unused_of c.args.self.now.input)))) c.in-None.ensures.quit

pub returns-in_default-clause-ends : goal.returns-in_default-clause-ends
returns-in_default-clause-ends c = no_letter c.args.self.now.used (unused_of c.args.self.now.input) (sym c.first_letter.ensures ∙ c.in_default.is)

pub returns-in_default-letter-clause-ends : goal.returns-in_default-letter-clause-ends
returns-in_default-letter-clause-ends c = first_ends c.args.self.now.used c.in-Some.byte None (unused_of c.args.self.now.input) (sym c.first_letter.ensures ∙ c.in-Some.is) c.in_default-letter.ensures.unknown
