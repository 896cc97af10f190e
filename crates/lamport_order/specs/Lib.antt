pub mod LamportOrder
