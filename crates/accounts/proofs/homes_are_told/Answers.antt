use Rattle.accounts.proofs.Homes.{homes_are_told}
use Rattle.accounts.proofs.homes_are_told.Goals as goal

pub returns : goal.returns
returns c = homes_are_told
