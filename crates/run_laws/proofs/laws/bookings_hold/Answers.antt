use Rattle.run_laws.proofs.Bookings.{law}
use Rattle.run_laws.proofs.laws.bookings_hold.Goals as goal

pub returns : goal.returns
returns c = law
