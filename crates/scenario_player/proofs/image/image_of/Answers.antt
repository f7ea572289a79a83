use Rattle.scenario_player.proofs.Living.{stays_ready}
use Rattle.scenario_player.proofs.image.image_of.Goals as goal

pub returns-in-Ok-clause-stays : goal.returns-in-Ok-clause-stays
returns-in-Ok-clause-stays c durable accepted is_ready =
    stays_ready _ _ c.read.ensures.moments c.read.ensures.same_open c.read.ensures.counted.sectors durable accepted is_ready

pub returns-in-Err-clause-stays : goal.returns-in-Err-clause-stays
returns-in-Err-clause-stays c durable accepted is_ready =
    stays_ready _ _ c.read.ensures.moments c.read.ensures.same_open c.read.ensures.counted.sectors durable accepted is_ready
