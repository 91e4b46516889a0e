use Rattle.std.proofs.Common.{refl}
use Rattle.verilog_read.proofs.steps.broken.Goals as goal

pub returns-in-NoMemory : goal.returns-in-NoMemory
returns-in-NoMemory c = rw c.in-NoMemory.is refl

pub returns-in-Unknown : goal.returns-in-Unknown
returns-in-Unknown c = rw c.in-Unknown.is refl

pub returns-in-Width : goal.returns-in-Width
returns-in-Width c = rw c.in-Width.is refl

pub returns-in-TwoDrivers : goal.returns-in-TwoDrivers
returns-in-TwoDrivers c = rw c.in-TwoDrivers.is refl

pub returns-in-CombLoop : goal.returns-in-CombLoop
returns-in-CombLoop c = rw c.in-CombLoop.is refl

pub returns-in-NoDriver : goal.returns-in-NoDriver
returns-in-NoDriver c = rw c.in-NoDriver.is refl

pub returns-in-SameName : goal.returns-in-SameName
returns-in-SameName c = rw c.in-SameName.is refl
