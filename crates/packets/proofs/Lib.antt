pub mod AnyPacket
pub mod FieldRead
pub mod FirstFits
pub mod PacketListed
pub mod StaticFitting
pub mod StaticSteps
mod Reported
mod ReportedElements
mod ReportedOthers
mod ReportedPackets
mod ReportedSteps
