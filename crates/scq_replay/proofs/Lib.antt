pub mod StepsRun
pub mod Rings
pub mod ScheduleRuns
pub mod RingOrders
